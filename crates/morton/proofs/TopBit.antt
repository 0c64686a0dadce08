-- The highest set bit of a word, and what a good key's level says of the key.
use mathlib.Core.Path.{◌≡◌, ap, subst, sym, ◌∙◌}
use mathlib.Core.Bool.{not}
use Prim.Native.Nat.{ℕ, suc, ◌+◌, ◌-◌, ◌*◌, ◌/◌, ◌%◌, ◌^◌, ◌≤◌, ◌<◌}
use native.Mathlib.Nat.{lt_of_lt_of_le}
use native.Mathlib.Omega.{arith}
use lib.Dec.{T, T_not, eqb, eqb→eq}
use lib.Count.{count_leading_zeros, leading_top}
use lib.Pow.{pow_mono, shl_exact}
use lib.Bits.{bit_or, or_shifted}
use lib.Ieee.Fits.{and_l, and_r, eq→eqb}
use Rattle.morton.specs.Key.{top_bit, good, level_in}

pub zeros_le : (key : ℕ) → 0 < key → key < 2 ^ 64 → count_leading_zeros 64 key ≤ 63
zeros_le key h l = omega (arith, (leading_top 64 key h l).1)

-- the highest set bit stands at `top_bit`
pub top_bit-at : (key : ℕ) → 0 < key → key < 2 ^ 64 → (2 ^ top_bit key ≤ key) × (key < 2 ^ suc (top_bit key))
unfolding top_bit
top_bit-at key h l =
    let t = leading_top 64 key h l in
    let e : 63 - count_leading_zeros 64 key ≡ t.0 = omega (arith, t.1) in
    (subst (λ (j : ℕ). 2 ^ j ≤ key) (sym e) t.2, subst (λ (j : ℕ). key < 2 ^ suc j) (sym e) t.3)

pub level_in_le : (key : ℕ) → level_in key ≤ 21
unfolding level_in top_bit
level_in_le key = omega arith

positive : (key : ℕ) → (key ≡ 0 → ⊥) → 0 < key
positive key h = omega arith

module _ (key : ℕ) (is-good : T (good key)) where
  pub good_pos : 0 < key
  unfolding good
  good_pos = positive key λ none. T_not (eqb key 0) (and_l (not (eqb key 0)) (eqb (top_bit key % 3) 0) is-good) (eq→eqb none)

  good-third : top_bit key % 3 ≡ 0
  unfolding good
  good-third = eqb→eq (top_bit key % 3) 0 (and_r (not (eqb key 0)) (eqb (top_bit key % 3) 0) is-good)

  -- the key has one bit more than three for each level
  good-lt : (level : ℕ) → key < 2 ^ 64 → level_in key ≤ level → key < 2 ^ (3 * level + 1)
  unfolding level_in
  good-lt level h l = lt_of_lt_of_le (top_bit-at key good_pos h).1 (pow_mono (few (top_bit key) good-third l))
    where
      few : (t : ℕ) → t % 3 ≡ 0 → t / 3 ≤ level → suc t ≤ 3 * level + 1
      few t z m = omega arith

  -- below the last level a shift by 3 loses nothing, and a number up to 7 goes in below
  pub child_word : (which : ℕ) → key < 2 ^ 64 → level_in key < 21 → which ≤ 7 → bit_or (key * 8 % 2 ^ 64) which ≡ 8 * key + which
  child_word which h l w =
      ap (λ (x : ℕ). bit_or x which) (shl_exact 61 3 64 (good-lt 20 h (omega arith)) (omega arith))
      ∙ or_shifted key 3 which (omega arith) ∙ omega arith
