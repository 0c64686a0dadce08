-- The word of the right neighbours bit by bit, and the signs of a cell's corners from the sign words of two layers.
use mathlib.Core.Path.{◌≡◌, refl, sym, ◌∙◌, ap, subst}
use mathlib.Core.Bool.{Bool, true, false, ◌&&◌, ◌||◌}
use mathlib.Core.List.{List, [], ◌∷◌}
use Prim.Native.Nat.{ℕ, ◌+◌, ◌*◌, ◌/◌, ◌%◌, ◌^◌, ◌≤◌, ◌<◌}
use native.Mathlib.Nat.{mod-lt, mod-eq_of_lt, div-one, div-eq_of_lt, mul-div_cancel}
use native.Mathlib.Omega.{arith}
use native.Mathlib.Decide.{dec_lt}
use lib.ListN.{get_or}
use lib.Pow.{shl_exact, pow_pos}
use lib.Bits.{bit_or}
use lib.Ieee.{Float}
use borrow.Author.Tests.{lt-ltb}
use Rattle.marching_cubes_tables.specs.Rule.{bit_at}
use Rattle.walk.specs.Walk.{bit}
use Rattle.lent_mesh.specs.Grid.{inside_of}
use Rattle.sign_words.specs.Words.{inside_row, LayerWords}
use Rattle.sign_words.proofs.Words.{word_of-bit}
use Rattle.sign_words.proofs.OneBit.{or-bit, shift-bit, multiple-bit}
use Rattle.cell_tally.specs.Tally.{is_set}
use Rattle.cell_tally.proofs.SetBits.{is_set-bit}
use Rattle.layer_tally.specs.Layer.{NextFrom, CornersFrom}
use Rattle.layer_tally.proofs.MaskBits.{is_set-of}

or-none : (p : Bool) → p || false ≡ p
or-none true = refl
or-none false = refl

-- ---- the right neighbours

module _ (word next : ℕ) where
  abbrev next_word : ℕ
  next_word = bit_or (word / 2 ^ 1) (next % 2 * 2 ^ 31)

  next-inner : (j : ℕ) → j < 31 → is_set next_word j ≡ is_set word (j + 1)
  next-inner j h =
      is_set-of next_word j (is_set word (j + 1))
      (or-bit (word / 2 ^ 1) (next % 2 * 2 ^ 31) j (is_set word (j + 1)) false
      (shift-bit word j ∙ is_set-bit word (j + 1))
      (multiple-bit (next % 2) 31 j h)
      ∙ ap bit (or-none (is_set word (j + 1))))

  next_last : word < 2 ^ 32 → is_set next_word 31 ≡ is_set next 0
  next_last l =
      let small : next % 2 < 2 = mod-lt next (omega arith) in
      is_set-of next_word 31 (is_set next 0)
      (or-bit (word / 2 ^ 1) (next % 2 * 2 ^ 31) 31 false (is_set next 0)
      (shift-bit word 31 ∙ ap (λ (x : ℕ). x % 2) (div-eq_of_lt l))
      (ap (λ (x : ℕ). x % 2) (mul-div_cancel (next % 2) (pow_pos 31))
      ∙ mod-eq_of_lt small
      ∙ ap (λ (x : ℕ). x % 2) (sym (div-one next))
      ∙ is_set-bit next 0))

  pub next-from : word < 2 ^ 32 → NextFrom word next (bit_or (word / 2 ^ 1) (next % 2 * 2 ^ 31 % 2 ^ 32))
  next-from l =
      let whole : next % 2 * 2 ^ 31 % 2 ^ 32 ≡ next % 2 * 2 ^ 31 = shl_exact 1 31 32 (mod-lt next (omega arith)) (omega arith) in
      subst (λ (m : ℕ). NextFrom word next (bit_or (word / 2 ^ 1) m)) (sym whole)
      (record { inner = next-inner; last = next_last l })

-- ---- the corners

module _ (n : ℕ) (samples : List Float) (words : List ℕ) (y z : ℕ) (layer : LayerWords n samples z words) (in-y : y < n) (most : n ≤ 128) where
  -- a bit of one of the row's words
  word-sign : (at k j : ℕ) → at ≡ 4 * y + k → k < 4 → j < 32 → 32 * k + j < n → is_set (get_or words at 0) j ≡ inside_of n samples (32 * k + j) y z
  word-sign at k j e in_row h l =
      is_set-of (get_or words at 0) j (inside_of n samples (32 * k + j) y z)
      (ap (λ (w : ℕ). bit_at w j) (ap (λ (a : ℕ). get_or words a 0) e ∙ layer y k in-y in_row)
      ∙ word_of-bit (λ i. inside_row n samples y z (32 * k + i)) 32 j h
      ∙ ap (λ (t : Bool). bit (t && inside_of n samples (32 * k + j) y z)) (lt-ltb (32 * k + j) n l))

  -- and the sign to the right of it
  next-sign : (at k j r : ℕ) → NextFrom (get_or words at 0) (get_or words (at + 1) 0) r → at ≡ 4 * y + k → k < 4 → j < 32 → 32 * k + j + 1 < n
      → is_set r j ≡ inside_of n samples (32 * k + j + 1) y z
  next-sign at k j r from e in_row h l =
      elim (dec_lt j 31) [
        | yes lt ↦
            let right : 32 * k + (j + 1) ≡ 32 * k + j + 1 = omega arith in
            from.inner j lt
            ∙ word-sign at k (j + 1) e in_row (omega arith) (omega arith)
            ∙ ap (λ (x : ℕ). inside_of n samples x y z) right
        | no ge ↦
            let end : j ≡ 31 = omega arith in
            let right : 32 * (k + 1) + 0 ≡ 32 * k + j + 1 = omega arith in
            ap (λ (i : ℕ). is_set r i) end
            ∙ from.last
            ∙ word-sign (at + 1) (k + 1) 0 (omega arith) (omega arith) (omega arith) (omega arith)
            ∙ ap (λ (x : ℕ). inside_of n samples x y z) right
      ]

-- the words of the corners in the order of the corners
pub corners-from : (low high : List ℕ) (at c1 c2 c5 c6 : ℕ)
    → NextFrom (get_or low at 0) (get_or low (at + 1) 0) c1
    → NextFrom (get_or low (at + 4) 0) (get_or low (at + 4 + 1) 0) c2
    → NextFrom (get_or high at 0) (get_or high (at + 1) 0) c5
    → NextFrom (get_or high (at + 4) 0) (get_or high (at + 4 + 1) 0) c6
    → CornersFrom low high at (record {
      signs = get_or low at 0 ∷ c1 ∷ c2 ∷ get_or low (at + 4) 0 ∷ get_or high at 0 ∷ c5 ∷ c6 ∷ get_or high (at + 4) 0 ∷ [];
    })
corners-from low high at c1 c2 c5 c6 f1 f2 f5 f6 n samples y z k e in_row most in-y low-words high-words j h l =
    let in-low : y < n = omega arith in
    let below : at + 4 ≡ 4 * (y + 1) + k = omega arith in
    let in-word : 32 * k + j < n = omega arith in
    record {
      s0 = word-sign n samples low y z low-words in-low most at k j e in_row h in-word;
      s1 = next-sign n samples low y z low-words in-low most at k j c1 f1 e in_row h l;
      s2 = next-sign n samples low (y + 1) z low-words in-y most (at + 4) k j c2 f2 below in_row h l;
      s3 = word-sign n samples low (y + 1) z low-words in-y most (at + 4) k j below in_row h in-word;
      s4 = word-sign n samples high y (z + 1) high-words in-low most at k j e in_row h in-word;
      s5 = next-sign n samples high y (z + 1) high-words in-low most at k j c5 f5 e in_row h l;
      s6 = next-sign n samples high (y + 1) (z + 1) high-words in-y most (at + 4) k j c6 f6 below in_row h l;
      s7 = word-sign n samples high (y + 1) (z + 1) high-words in-y most (at + 4) k j below in_row h in-word;
    }
