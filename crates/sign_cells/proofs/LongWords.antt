-- Two words of a row as one of 64 bits: up to the first bit of the upper one they are the signs of the row, as far as the row goes.
use mathlib.Core.Path.{◌≡◌, refl, sym, ◌∙◌, ap, subst}
use mathlib.Core.Bool.{Bool, true, false, ◌&&◌, ◌||◌}
use mathlib.Core.List.{List}
use Prim.Native.Nat.{ℕ, ◌+◌, ◌*◌, ◌%◌, ◌^◌, ◌<◌}
use native.Mathlib.Nat.{add_assoc, div-one, div-eq_of_lt, mul-div_cancel}
use native.Mathlib.Omega.{arith}
use native.Mathlib.Decide.{dec_lt}
use lib.ListN.{get_or}
use lib.Pow.{shl_exact, pow_pos}
use lib.Bits.{bit_or}
use lib.Ieee.{Float}
use borrow.Author.Tests.{lt-ltb}
use Rattle.marching_cubes_tables.specs.Rule.{bit_at}
use Rattle.walk.specs.Walk.{bit}
use Rattle.lent_mesh.specs.Grid.{inside_of}
use Rattle.sign_words.specs.Words.{inside_row, LayerWords}
use Rattle.sign_cells.specs.Cells.{LongWordFrom}
use Rattle.sign_words.proofs.Words.{word_of-bit}
use Rattle.sign_words.proofs.OneBit.{or-bit, multiple-bit}

or-none : (p : Bool) → p || false ≡ p
or-none true = refl
or-none false = refl

-- a bit of one word below another
low_bit : (low high i : ℕ) (p : Bool) → i < 32 → bit_at low i ≡ bit p → bit_at (bit_or low (high * 2 ^ 32)) i ≡ bit p
low_bit low high i p h e = or-bit low (high * 2 ^ 32) i p false e (multiple-bit high 32 i h) ∙ ap bit (or-none p)

-- and the first bit of the upper word
high_bit : (low high : ℕ) (p : Bool) → low < 2 ^ 32 → bit_at high 0 ≡ bit p → bit_at (bit_or low (high * 2 ^ 32)) 32 ≡ bit p
high_bit low high p l e =
    or-bit low (high * 2 ^ 32) 32 false p
    (ap (λ (x : ℕ). x % 2) (div-eq_of_lt l))
    (ap (λ (x : ℕ). x % 2) (mul-div_cancel high (pow_pos 32)) ∙ ap (λ (x : ℕ). x % 2) (sym (div-one high)) ∙ e)

module _ (words : List ℕ) (y k n : ℕ) (samples : List Float) (z : ℕ) (layer : LayerWords n samples z words) (in-y : y < n) where
  -- a bit of one of the row's words
  word-sign : (j word i : ℕ) → j < 4 → word ≡ get_or words (4 * y + j) 0 → i < 32 → 32 * j + i < n → bit_at word i ≡ bit (inside_of n samples (32 * j + i) y z)
  word-sign j word i in_row e h l =
      ap (λ (w : ℕ). bit_at w i) (e ∙ layer y j in-y in_row)
      ∙ word_of-bit (λ i. inside_row n samples y z (32 * j + i)) 32 i h
      ∙ ap (λ (t : Bool). bit (t && inside_of n samples (32 * j + i) y z)) (lt-ltb (32 * j + i) n l)

pub long_word-signs : (words : List ℕ) (y k low high : ℕ) → k < 4 → low < 2 ^ 32 → high < 2 ^ 32
    → low ≡ get_or words (4 * y + k) 0 → high ≡ get_or words (4 * y + k + 1) 0 → LongWordFrom words y k (bit_or low (high * 2 ^ 32 % 2 ^ 64))
long_word-signs words y k low high in_row l h p q n samples z layer most in-y i few inside =
    ap (λ (m : ℕ). bit_at (bit_or low m) i) (shl_exact 32 32 64 h (omega arith))
    ∙ elim (dec_lt i 32) [
      | yes lt ↦ low_bit low high i (inside_of n samples (32 * k + i) y z) lt (word-sign words y k n samples z layer in-y k low i in_row p lt inside)
      | no ge ↦
          let last : i ≡ 32 = omega arith in
          let next : 32 * (k + 1) + 0 ≡ 32 * k + i = omega arith in
          let first : bit_at high 0 ≡ bit (inside_of n samples (32 * k + i) y z) =
          word-sign words y k n samples z layer in-y (k + 1) high 0 (omega arith) (q ∙ ap (λ (a : ℕ). get_or words a 0) (add_assoc (4 * y) k 1)) (omega arith) (omega arith)
          ∙ ap (λ (x : ℕ). bit (inside_of n samples x y z)) next in
          subst (λ (j : ℕ). bit_at (bit_or low (high * 2 ^ 32)) j ≡ bit (inside_of n samples (32 * k + i) y z)) (sym last) (high_bit low high (inside_of n samples (32 * k + i) y z) l first)
    ]
