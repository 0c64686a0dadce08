-- The bits of the four words at a cell are the signs of its eight corners: so the word that the code makes has a bit set exactly at the mixed cells, and
-- the number that it takes from the words is the sign byte.
use mathlib.Core.Path.{◌≡◌, refl, sym, ◌∙◌, ap, subst}
use mathlib.Core.Bool.{Bool, true, false, not, ◌&&◌, ◌||◌}
use mathlib.Core.List.{List, [], ◌∷◌}
use Prim.Native.Nat.{ℕ, zero, suc, ◌+◌, ◌*◌, ◌-◌, ◌/◌, ◌%◌, ◌^◌, ◌≤◌, ◌<◌}
use native.Mathlib.Nat.{add_assoc, suc_inj}
use native.Mathlib.Omega.{arith}
use lib.Dec.{T, eqb, eqb→eq}
use lib.ListN.{length, get_or}
use lib.Pow.{shr-shr, mod-mod-pow}
use lib.Bits.{bit_or, bit_and, bit_xor}
use lib.Ieee.{Float}
use Rattle.marching_cubes_tables.specs.Rule.{bit_at}
use Rattle.marching_cubes_tables.proofs.Tests.{both_left, both_right}
use Rattle.walk.specs.Walk.{bit, signs}
use Rattle.walk.proofs.SignByte.{byte, signs-byte}
use Rattle.lent_mesh.specs.Grid.{inside_of}
use Rattle.sign_cells.specs.declared.Quad.{Quad}
use Rattle.sign_cells.specs.Cells.{RowSigns, QuadOf, cells_in, mixed, active_word}
use Rattle.sign_words.proofs.Words.{word_of-of-bits}
use Rattle.sign_words.proofs.OneBit.{and-bit, or-bit, xor-bit, shift-bit}

-- ---- a test over so many Bools, computed, and what it says of each list of them

abbrev all_bools : ℕ → (List Bool → Bool) → Bool
all_bools zero f = f []
all_bools (suc k) f = all_bools k (λ l. f (true ∷ l)) && all_bools k (λ l. f (false ∷ l))

all_bools-at : (k : ℕ) (f : List Bool → Bool) → T (all_bools k f) → (l : List Bool) → length l ≡ k → T (f l)
all_bools-at zero f t [] h = t
all_bools-at zero f t (b ∷ l) h = absurd (omega arith)
all_bools-at (suc k) f t [] h = absurd (omega arith)
all_bools-at (suc k) f t (true ∷ l) h =
    all_bools-at k (λ l. f (true ∷ l)) (both_left (all_bools k (λ l. f (true ∷ l))) (all_bools k (λ l. f (false ∷ l))) t) l (suc_inj h)
all_bools-at (suc k) f t (false ∷ l) h =
    all_bools-at k (λ l. f (false ∷ l)) (both_right (all_bools k (λ l. f (true ∷ l))) (all_bools k (λ l. f (false ∷ l))) t) l (suc_inj h)

-- ---- the active word, bit by bit

-- some of the four, and all of the four
abbrev some : Bool → Bool → Bool → Bool → Bool
some a b c d = ((a || b) || c) || d

abbrev every : Bool → Bool → Bool → Bool → Bool
every a b c d = ((a && b) && c) && d

-- a, b, c and d at the cell, then at its right neighbour
abbrev differs : List Bool → Bool
differs l =
    let p : ℕ → Bool = λ i. get_or l i false in
    let s = byte (p 0) (p 4) (p 5) (p 1) (p 2) (p 6) (p 7) (p 3) in
    eqb (bit_xor (bit (some (p 0) (p 1) (p 2) (p 3) || some (p 4) (p 5) (p 6) (p 7))) (bit (every (p 0) (p 1) (p 2) (p 3) && every (p 4) (p 5) (p 6) (p 7))))
    (bit (not (eqb s 0 || eqb s 255)))

all-differ : T (all_bools 8 differs)
all-differ = tt

xor-mixed : (a0 b0 c0 d0 a1 b1 c1 d1 : Bool)
    → bit_xor (bit (some a0 b0 c0 d0 || some a1 b1 c1 d1)) (bit (every a0 b0 c0 d0 && every a1 b1 c1 d1))
    ≡ bit (not (eqb (byte a0 a1 b1 b0 c0 c1 d1 d0) 0 || eqb (byte a0 a1 b1 b0 c0 c1 d1 d0) 255))
xor-mixed a0 b0 c0 d0 a1 b1 c1 d1 =
    eqb→eq _ _ (all_bools-at 8 differs all-differ (a0 ∷ b0 ∷ c0 ∷ d0 ∷ a1 ∷ b1 ∷ c1 ∷ d1 ∷ []) refl)

-- the code's words
unfoldable pub some_word : ℕ → ℕ → ℕ → ℕ → ℕ
some_word a b c d = bit_or (bit_or (bit_or a b) c) d

unfoldable pub every_word : ℕ → ℕ → ℕ → ℕ → ℕ
every_word a b c d = bit_and (bit_and (bit_and a b) c) d

unfoldable pub mixed_word : ℕ → ℕ → ℕ → ℕ → ℕ
mixed_word a b c d = bit_xor (bit_or (some_word a b c d) (some_word a b c d / 2 ^ 1)) (bit_and (every_word a b c d) (every_word a b c d / 2 ^ 1))

module _ (a b c d j : ℕ) (p q r s : Bool) (ea : bit_at a j ≡ bit p) (eb : bit_at b j ≡ bit q) (ec : bit_at c j ≡ bit r) (ed : bit_at d j ≡ bit s) where
  some-bit : bit_at (some_word a b c d) j ≡ bit (some p q r s)
  unfolding some_word
  some-bit = or-bit (bit_or (bit_or a b) c) d j ((p || q) || r) s (or-bit (bit_or a b) c j (p || q) r (or-bit a b j p q ea eb) ec) ed

  every-bit : bit_at (every_word a b c d) j ≡ bit (every p q r s)
  unfolding every_word
  every-bit = and-bit (bit_and (bit_and a b) c) d j ((p && q) && r) s (and-bit (bit_and a b) c j (p && q) r (and-bit a b j p q ea eb) ec) ed

mixed-bit : (a b c d i : ℕ) (a0 b0 c0 d0 a1 b1 c1 d1 : Bool)
    → bit_at a i ≡ bit a0 → bit_at b i ≡ bit b0 → bit_at c i ≡ bit c0 → bit_at d i ≡ bit d0
    → bit_at a (i + 1) ≡ bit a1 → bit_at b (i + 1) ≡ bit b1 → bit_at c (i + 1) ≡ bit c1 → bit_at d (i + 1) ≡ bit d1
    → bit_at (mixed_word a b c d) i ≡ bit (not (eqb (byte a0 a1 b1 b0 c0 c1 d1 d0) 0 || eqb (byte a0 a1 b1 b0 c0 c1 d1 d0) 255))
unfolding mixed_word
mixed-bit a b c d i a0 b0 c0 d0 a1 b1 c1 d1 ea eb ec ed fa fb fc fd =
    let o = some_word a b c d in
    let e = every_word a b c d in
    xor-bit (bit_or o (o / 2 ^ 1)) (bit_and e (e / 2 ^ 1)) i (some a0 b0 c0 d0 || some a1 b1 c1 d1) (every a0 b0 c0 d0 && every a1 b1 c1 d1)
    (or-bit o (o / 2 ^ 1) i (some a0 b0 c0 d0) (some a1 b1 c1 d1)
    (some-bit a b c d i a0 b0 c0 d0 ea eb ec ed) (shift-bit o i ∙ some-bit a b c d (i + 1) a1 b1 c1 d1 fa fb fc fd))
    (and-bit e (e / 2 ^ 1) i (every a0 b0 c0 d0) (every a1 b1 c1 d1)
    (every-bit a b c d i a0 b0 c0 d0 ea eb ec ed) (shift-bit e i ∙ every-bit a b c d (i + 1) a1 b1 c1 d1 fa fb fc fd))
    ∙ xor-mixed a0 b0 c0 d0 a1 b1 c1 d1

-- ---- the byte, from two bits of each word

two-bits : (a i : ℕ) → a / 2 ^ i % 4 ≡ bit_at a i + 2 * bit_at a (i + 1)
two-bits a i = four (a / 2 ^ i) ∙ ap (λ (x : ℕ). bit_at a i + 2 * (x % 2)) (shr-shr a i 1)
  where
    four : (m : ℕ) → m % 4 ≡ m % 2 + 2 * (m / 2 % 2)
    four m = omega arith

-- as the code puts it together
unfoldable pub case_number : ℕ → ℕ → ℕ → ℕ → ℕ → ℕ
case_number a b c d i =
    a / 2 ^ i % 4 + 4 * (b / 2 ^ i % 4 / 2) + 8 * (b / 2 ^ i % 4 % 2) + 16 * (c / 2 ^ i % 4) + 64 * (d / 2 ^ i % 4 / 2) + 128 * (d / 2 ^ i % 4 % 2)

halves : (x : ℕ) (p q : Bool) → x ≡ bit p + 2 * bit q → (x / 2 ≡ bit q) × (x % 2 ≡ bit p)
halves x p q e = (rw e (high p q), rw e (low p q))
  where
    high : (p q : Bool) → (bit p + 2 * bit q) / 2 ≡ bit q
    high true true = refl
    high true false = refl
    high false true = refl
    high false false = refl

    low : (p q : Bool) → (bit p + 2 * bit q) % 2 ≡ bit p
    low true true = refl
    low true false = refl
    low false true = refl
    low false false = refl

case_number-byte : (a b c d i : ℕ) (a0 b0 c0 d0 a1 b1 c1 d1 : Bool)
    → bit_at a i ≡ bit a0 → bit_at b i ≡ bit b0 → bit_at c i ≡ bit c0 → bit_at d i ≡ bit d0
    → bit_at a (i + 1) ≡ bit a1 → bit_at b (i + 1) ≡ bit b1 → bit_at c (i + 1) ≡ bit c1 → bit_at d (i + 1) ≡ bit d1
    → case_number a b c d i ≡ byte a0 a1 b1 b0 c0 c1 d1 d0
unfolding case_number
case_number-byte a b c d i a0 b0 c0 d0 a1 b1 c1 d1 ea eb ec ed fa fb fc fd =
    let two : (w : ℕ) (p q : Bool) → bit_at w i ≡ bit p → bit_at w (i + 1) ≡ bit q → w / 2 ^ i % 4 ≡ bit p + 2 * bit q =
    λ w p q e f. two-bits w i ∙ rw (e, f) in
    let hb = halves (b / 2 ^ i % 4) b0 b1 (two b b0 b1 eb fb) in
    let hd = halves (d / 2 ^ i % 4) d0 d1 (two d d0 d1 ed fd) in
    rw (two a a0 a1 ea fa, hb.0, hb.1, two c c0 c1 ec fc, hd.0, hd.1) (sum (bit a0) (bit a1) (bit b0) (bit b1) (bit c0) (bit c1) (bit d0) (bit d1))
  where
    sum : (a0 a1 b0 b1 c0 c1 d0 d1 : ℕ)
        → a0 + 2 * a1 + 4 * b1 + 8 * b0 + 16 * (c0 + 2 * c1) + 64 * d1 + 128 * d0
        ≡ a0 + 2 * (a1 + 2 * (b1 + 2 * (b0 + 2 * (c0 + 2 * (c1 + 2 * (d1 + 2 * (d0 + 2 * 0)))))))
    sum a0 a1 b0 b1 c0 c1 d0 d1 = omega arith

-- ---- at a cell of the grid

module _ (n : ℕ) (samples : List Float) (k i : ℕ) (cell : i < cells_in n k) where
  bit-here : (word y z : ℕ) → RowSigns n samples y z k word → bit_at word i ≡ bit (inside_of n samples (32 * k + i) y z)
  bit-here word y z e = e i (omega arith) (omega arith)

  bit-right : (word y z : ℕ) → RowSigns n samples y z k word → bit_at word (i + 1) ≡ bit (inside_of n samples (32 * k + i + 1) y z)
  bit-right word y z e =
      e (i + 1) (omega arith) (omega arith) ∙ ap (λ (x : ℕ). bit (inside_of n samples x y z)) (sym (add_assoc (32 * k) i 1))

  module _ (y z : ℕ) (q : Quad) (known : QuadOf n samples y z k q) where
    mixed_word-bit : bit_at (mixed_word q.a q.b q.c q.d) i ≡ bit (mixed (inside_of n samples) (32 * k + i) y z)
    unfolding mixed
    mixed_word-bit =
        let g = inside_of n samples in
        let x = 32 * k + i in
        mixed-bit q.a q.b q.c q.d i
        (g x y z) (g x (y + 1) z) (g x y (z + 1)) (g x (y + 1) (z + 1)) (g (x + 1) y z) (g (x + 1) (y + 1) z) (g (x + 1) y (z + 1)) (g (x + 1) (y + 1) (z + 1))
        (bit-here q.a y z known.low) (bit-here q.b (y + 1) z known.low-next)
        (bit-here q.c y (z + 1) known.high) (bit-here q.d (y + 1) (z + 1) known.high-next)
        (bit-right q.a y z known.low) (bit-right q.b (y + 1) z known.low-next)
        (bit-right q.c y (z + 1) known.high) (bit-right q.d (y + 1) (z + 1) known.high-next)
        ∙ ap (λ (s : ℕ). bit (not (eqb s 0 || eqb s 255))) (sym (signs-byte (inside_of n samples) (32 * k + i) y z))

    pub case_number-signs : case_number q.a q.b q.c q.d i ≡ signs (inside_of n samples) (32 * k + i) y z
    case_number-signs =
        let g = inside_of n samples in
        let x = 32 * k + i in
        case_number-byte q.a q.b q.c q.d i
        (g x y z) (g x (y + 1) z) (g x y (z + 1)) (g x (y + 1) (z + 1)) (g (x + 1) y z) (g (x + 1) (y + 1) z) (g (x + 1) y (z + 1)) (g (x + 1) (y + 1) (z + 1))
        (bit-here q.a y z known.low) (bit-here q.b (y + 1) z known.low-next)
        (bit-here q.c y (z + 1) known.high) (bit-here q.d (y + 1) (z + 1) known.high-next)
        (bit-right q.a y z known.low) (bit-right q.b (y + 1) z known.low-next)
        (bit-right q.c y (z + 1) known.high) (bit-right q.d (y + 1) (z + 1) known.high-next)
        ∙ sym (signs-byte (inside_of n samples) (32 * k + i) y z)

-- ---- the active word, cut at the row's end

mod-again : (m c : ℕ) → c ≤ 32 → m % 2 ^ 32 % 2 ^ c ≡ m % 2 ^ c
mod-again m c h =
    let s : (32 - c) + c ≡ 32 = omega arith in
    subst (λ (j : ℕ). m % 2 ^ j % 2 ^ c ≡ m % 2 ^ c) s (mod-mod-pow m (32 - c) c)

pub mixed_word-active : (n : ℕ) (samples : List Float) (y z k : ℕ) (q : Quad) → QuadOf n samples y z k q
    → mixed_word q.a q.b q.c q.d % 2 ^ 32 % 2 ^ cells_in n k ≡ active_word n samples y z k
mixed_word-active n samples y z k q known =
    mod-again (mixed_word q.a q.b q.c q.d) (cells_in n k) (omega arith)
    ∙ word_of-of-bits (mixed_word q.a q.b q.c q.d) (cells_in n k) (λ i. mixed (inside_of n samples) (32 * k + i) y z)
    (λ i l. mixed_word-bit n samples k i l y z q known)
