-- Set bits, cell by cell: of `&` and `^`, how many a word has in a mask, and the sums of them that the code makes.
use mathlib.Core.Path.{◌≡◌, refl, sym, ◌∙◌, ap, ap₂}
use mathlib.Core.Bool.{Bool, true, false, cond, ◌&&◌}
use Prim.Native.Nat.{ℕ, zero, suc, ◌+◌, ◌*◌, ◌^◌, ◌<◌}
use native.Mathlib.Nat.{mod-lt, mod-eq_of_lt, add_comm}
use native.Mathlib.Omega.{arith}
use lib.Bits.{bit_and, bit_xor, and_lt}
use lib.Count.{ones, ones_in, ones_cat}
use lib.Dec.{eqb}
use Rattle.marching_cubes_tables.specs.Rule.{bit_at}
use Rattle.walk.specs.Walk.{bit}
use Rattle.sign_words.specs.Words.{word_of}
use Rattle.sign_words.proofs.Words.{word_of-lt, word_of-of-bits}
use Rattle.sign_words.proofs.OneBit.{and-bit, xor-bit}
use Rattle.corner_signs.specs.Signs.{differ}
use Rattle.cell_tally.specs.Tally.{total, is_set, set_in}
use Rattle.cell_tally.proofs.Sums.{total-same}

-- ---- one bit

small : (x : ℕ) → x < 2 → x ≡ bit (eqb x 1)
small zero h = refl
small (suc zero) h = refl
small (suc (suc x)) h = absurd (omega arith)

pub is_set-bit : (w i : ℕ) → bit_at w i ≡ bit (is_set w i)
is_set-bit w i = small (bit_at w i) (mod-lt _ (omega arith))

pub bit-set : (b : Bool) → eqb (bit b) 1 ≡ b
bit-set true = refl
bit-set false = refl

pub and_set : (a b i : ℕ) → is_set (bit_and a b) i ≡ (is_set a i && is_set b i)
and_set a b i =
    ap (λ (x : ℕ). eqb x 1) (and-bit a b i (is_set a i) (is_set b i) (is_set-bit a i) (is_set-bit b i)) ∙ bit-set (is_set a i && is_set b i)

pub xor-set : (a b i : ℕ) → is_set (bit_xor a b) i ≡ differ (is_set a i) (is_set b i)
xor-set a b i =
    ap (λ (x : ℕ). eqb x 1) (xor-bit a b i (is_set a i) (is_set b i) (is_set-bit a i) (is_set-bit b i)) ∙ each (is_set a i) (is_set b i)
  where
    each : (p q : Bool) → eqb (bit_xor (bit p) (bit q)) 1 ≡ differ p q
    each true true = refl
    each true false = refl
    each false true = refl
    each false false = refl

-- ---- the bits of a word

ones_bit : (b : Bool) → ones (bit b) ≡ bit b
unfolding ones ones_in
ones_bit true = refl
ones_bit false = refl

ones-word_of : (f : ℕ → Bool) (k : ℕ) → ones (word_of f k) ≡ total (λ i. bit (f i)) k
unfolding total word_of ones ones_in
ones-word_of f zero = refl
ones-word_of f (suc k) =
    ap ones (add_comm (word_of f k) (bit (f k) * 2 ^ k))
    ∙ ones_cat k (bit (f k)) (word_of f k) (word_of-lt f k)
    ∙ ap₂ ◌+◌ (ones_bit (f k)) (ones-word_of f k)
    ∙ add_comm (bit (f k)) (total (λ i. bit (f i)) k)

pub ones-in : (word mask : ℕ) → word < 2 ^ 32 → mask < 2 ^ 32 → ones (bit_and word mask) ≡ set_in word mask
ones-in word mask a b =
    ap ones
    (sym (mod-eq_of_lt (and_lt 32 word mask a b))
    ∙ word_of-of-bits (bit_and word mask) 32 (λ i. is_set word i && is_set mask i)
    (λ i h. and-bit word mask i (is_set word i) (is_set mask i) (is_set-bit word i) (is_set-bit mask i)))
    ∙ ones-word_of (λ i. is_set word i && is_set mask i) 32
    ∙ total-same _ _ 32 (λ i h. masked (is_set word i) (is_set mask i))
  where
    masked : (p q : Bool) → bit (p && q) ≡ cond q (bit p) 0
    masked true true = refl
    masked true false = refl
    masked false true = refl
    masked false false = refl
