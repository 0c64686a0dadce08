-- A word that begins with every bit and loses those of the samples outside: `&` of two words, the word without one bit, and the loop's turns.
use mathlib.Core.Path.{◌≡◌, refl, sym, ◌∙◌, ap, ap₂}
use mathlib.Core.Bool.{Bool, true, false, not, ◌&&◌, ◌||◌}
use mathlib.Core.Logic.{⊎_elim}
use Prim.Native.Nat.{ℕ, zero, suc, ◌+◌, ◌*◌, ◌-◌, ◌^◌, ◌%◌, ◌≤◌, ◌<◌}
use native.Mathlib.Nat.{mod-eq_of_lt, not-suc-le-zero, eq-or-lt_of_le, le_of_suc-le-suc}
use native.Mathlib.Omega.{arith}
use lib.Dec.{eqb, ltb}
use lib.Pow.{shl_exact}
use lib.Bits.{bit_and, and_lt}
use borrow.Author.Tests.{lt-ltb, le-ltb, eq-eqb, ne_eqb}
use Rattle.marching_cubes_tables.proofs.Tests.{lt-or-ge}
use Rattle.walk.specs.Walk.{bit}
use Rattle.sign_words.specs.Words.{word_of, kept_bit}
use Rattle.sign_words.proofs.Words.{word_of-lt, word_of-bit, word_of-same, word_of-of-bits}
use Rattle.sign_words.proofs.OneBit.{and-bit}

word_of-and : (f g : ℕ → Bool) → bit_and (word_of f 32) (word_of g 32) ≡ word_of (λ i. f i && g i) 32
word_of-and f g =
    let a = word_of f 32 in
    let b = word_of g 32 in
    sym (mod-eq_of_lt (and_lt 32 a b (word_of-lt f 32) (word_of-lt g 32)))
    ∙ word_of-of-bits (bit_and a b) 32 (λ i. f i && g i) (λ i h. and-bit a b i (f i) (g i) (word_of-bit f 32 i h) (word_of-bit g 32 i h))

-- ---- every bit, and every bit but one

pub every : word_of (λ i. true) 32 ≡ 0xFFFF_FFFF
unfolding word_of
every = refl

or-true : (b : Bool) → (b || true) ≡ true
or-true true = refl
or-true false = refl

and-true : (b : Bool) → (b && true) ≡ b
and-true true = refl
and-true false = refl

other-bit : (i j : ℕ) (sign : Bool) → (j ≡ i → ⊥) → kept_bit sign i j ≡ true
other-bit i j sign h = ap (λ (b : Bool). not b || sign) (ne_eqb j i h)

same_bit : (i j : ℕ) (sign : Bool) → j ≡ i → kept_bit sign i j ≡ sign
same_bit i j sign h = ap (λ (b : Bool). not b || sign) (eq-eqb j i h)

one_less : (k i : ℕ) → i < k → word_of (kept_bit false i) k + 2 ^ i ≡ word_of (λ j. true) k
unfolding word_of
one_less zero i h = absurd (not-suc-le-zero h)
one_less (suc k) i h =
    ⊎_elim
    (λ (q : i ≡ k).
    let below : word_of (kept_bit false i) k ≡ word_of (λ j. true) k = word_of-same (kept_bit false i) (λ j. true) k (λ j l. other-bit i j false (λ e. omega arith)) in
    ap₂ (λ (w : ℕ) (b : Bool). w + bit b * 2 ^ k + 2 ^ i) below (same_bit i k false (sym q))
    ∙ ap (λ (m : ℕ). word_of (λ j. true) k + 0 * 2 ^ k + 2 ^ m) q
    ∙ omega arith)
    (λ (l : i < k).
    let below : word_of (kept_bit false i) k + 2 ^ i ≡ word_of (λ j. true) k = one_less k i l in
    ap (λ (b : Bool). word_of (kept_bit false i) k + bit b * 2 ^ k + 2 ^ i) (other-bit i k false (λ e. omega arith)) ∙ omega (arith, below))
    (eq-or-lt_of_le (le_of_suc-le-suc h))

pub kept-all : (sign : Bool) (i : ℕ) → sign ≡ true → 0xFFFF_FFFF ≡ word_of (kept_bit sign i) 32
kept-all sign i s =
    sym every ∙ word_of-same (λ j. true) (kept_bit sign i) 32 (λ j h. sym (ap (λ (b : Bool). not (eqb j i) || b) s ∙ or-true (not (eqb j i))))

pub kept_but : (sign : Bool) (i : ℕ) → sign ≡ false → i < 32 → 0xFFFF_FFFF - 1 * 2 ^ i % 2 ^ 32 ≡ word_of (kept_bit sign i) 32
kept_but sign i s h =
    let shifted : 1 * 2 ^ i % 2 ^ 32 ≡ 1 * 2 ^ i = shl_exact 1 i 32 (omega arith) (omega arith) in
    let left : 0xFFFF_FFFF - 1 * 2 ^ i % 2 ^ 32 ≡ word_of (kept_bit false i) 32 = omega (arith, shifted, one_less 32 i h, every) in
    left ∙ ap (λ (b : Bool). word_of (kept_bit b i) 32) (sym s)

-- ---- the loop: bit j is as f tells from turn j on, and set before

module _ (f : ℕ → Bool) where
  abbrev pub still : ℕ → ℕ → Bool
  still i j = not (ltb j i) || f j

  pub still-none : 0xFFFF_FFFF ≡ word_of (still 0) 32
  still-none =
      sym every ∙ word_of-same (λ j. true) (still 0) 32 (λ j h. sym (ap (λ (b : Bool). not b || f j) (le-ltb j 0 (omega arith))))

  pub still-all : word_of (still 32) 32 ≡ word_of f 32
  still-all = word_of-same (still 32) f 32 (λ j h. ap (λ (b : Bool). not b || f j) (lt-ltb j 32 h))

  turn : (i j : ℕ) → (still i j && kept_bit (f i) i j) ≡ still (i + 1) j
  turn i j =
      ⊎_elim
      (λ (l : j < i).
      ap₂ ◌&&◌ (ap (λ (b : Bool). not b || f j) (lt-ltb j i l)) (other-bit i j (f i) (λ e. omega arith))
      ∙ and-true (f j)
      ∙ sym (ap (λ (b : Bool). not b || f j) (lt-ltb j (i + 1) (omega arith))))
      (λ (g : i ≤ j). ap (λ (b : Bool). (not b || f j) && kept_bit (f i) i j) (le-ltb j i g) ∙ onward g)
      (lt-or-ge j i)
    where
      onward : i ≤ j → kept_bit (f i) i j ≡ still (i + 1) j
      onward g =
          ⊎_elim
          (λ (q : i ≡ j).
          same_bit i j (f i) (sym q) ∙ ap f q ∙ sym (ap (λ (b : Bool). not b || f j) (lt-ltb j (i + 1) (omega arith))))
          (λ (l : i < j). other-bit i j (f i) (λ e. omega arith) ∙ sym (ap (λ (b : Bool). not b || f j) (le-ltb j (i + 1) (omega arith))))
          (eq-or-lt_of_le g)

  pub still-turn : (i word kept : ℕ) (sign : Bool) → word ≡ word_of (still i) 32 → kept ≡ word_of (kept_bit sign i) 32 → sign ≡ f i
      → bit_and word kept ≡ word_of (still (i + 1)) 32
  still-turn i word kept sign w k s =
      ap₂ bit_and w (k ∙ ap (λ (b : Bool). word_of (kept_bit b i) 32) s)
      ∙ word_of-and (still i) (kept_bit (f i) i)
      ∙ word_of-same (λ j. still i j && kept_bit (f i) i j) (still (i + 1)) 32 (λ j h. turn i j)
