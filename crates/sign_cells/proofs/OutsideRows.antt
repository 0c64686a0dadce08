-- Rows that are outside throughout: the words of both layers are 0, so no sample of them is inside and no cell between them visits anything.
use mathlib.Core.Path.{◌≡◌, sym, ap, ◌∙◌, subst}
use mathlib.Core.Bool.{Bool, false, ◌&&◌}
use mathlib.Core.List.{List, []}
use Prim.Native.Nat.{ℕ, ◌+◌, ◌*◌, ◌/◌, ◌%◌, ◌^◌, ◌≤◌, ◌<◌}
use native.Mathlib.Nat.{zero-div}
use native.Mathlib.Decide.{dec_lt}
use native.Mathlib.Omega.{arith}
use lib.Bits.{bit_or, or_add_and, and_le_l, and_le_r}
use lib.ListN.{get_or}
use lib.Ieee.{Float}
use borrow.Author.Tests.{lt-ltb}
use Rattle.marching_cubes_tables.specs.Rule.{bit_at}
use Rattle.walk.specs.Walk.{bit, cell_edges}
use Rattle.walk.proofs.SignByte.{signs-byte}
use Rattle.walk.proofs.CellEdges.{cell_edges-outside}
use Rattle.lent_mesh.specs.Grid.{inside_of}
use Rattle.sign_words.specs.Words.{word_of, inside_row, LayerWords}
use Rattle.sign_words.proofs.Words.{word_of-bit}
use Rattle.sign_cells.proofs.ActiveCells.{bit-none}

or-none : (a b : ℕ) → bit_or a b ≡ 0 → (a ≡ 0) × (b ≡ 0)
or-none a b e = (omega (arith, or_add_and a b, and_le_l a b, and_le_r a b), omega (arith, or_add_and a b, and_le_l a b, and_le_r a b))

-- ---- the loop

-- the first i words from row y on
abbrev pub ZeroWords : List ℕ → List ℕ → ℕ → ℕ → Type 0
ZeroWords low high y i = (j : ℕ) → j < i → (get_or low (4 * y + j) 0 ≡ 0) × (get_or high (4 * y + j) 0 ≡ 0)

module _ (low high : List ℕ) (y : ℕ) where
  pub zero_words-suc : (i some : ℕ) → (some ≡ 0 → ZeroWords low high y i)
      → bit_or some (bit_or (get_or low (4 * y + i) 0) (get_or high (4 * y + i) 0)) ≡ 0 → ZeroWords low high y (i + 1)
  zero_words-suc i some before e j h =
      let parts = or-none some (bit_or (get_or low (4 * y + i) 0) (get_or high (4 * y + i) 0)) e in
      let words = or-none (get_or low (4 * y + i) 0) (get_or high (4 * y + i) 0) parts.1 in
      elim (dec_lt j i) [
        | yes p ↦ before parts.0 j p
        | no p ↦
            let same : i ≡ j = omega arith in
            subst (λ (m : ℕ). (get_or low (4 * y + m) 0 ≡ 0) × (get_or high (4 * y + m) 0 ≡ 0)) same words
      ]

-- ---- what the words say

sample-outside : (n : ℕ) (samples : List Float) (z : ℕ) (words : List ℕ) → LayerWords n samples z words → n ≤ 128 → (x y : ℕ) → x < n → y < n
    → ((k : ℕ) → k < 4 → get_or words (4 * y + k) 0 ≡ 0) → inside_of n samples x y z ≡ false
sample-outside n samples z words known most x y in-x in-y zeros =
    let k : ℕ = x / 32 in
    let i : ℕ = x % 32 in
    let k_lt : k < 4 = omega arith in
    let f : ℕ → Bool = λ i. inside_row n samples y z (32 * k + i) in
    let word : word_of f 32 ≡ 0 = sym (known y k in-y k_lt) ∙ zeros k k_lt in
    let none : bit (f i) ≡ 0 =
    sym (word_of-bit f 32 i (omega arith)) ∙ ap (λ (w : ℕ). bit_at w i) word ∙ ap (λ (w : ℕ). w % 2) (zero-div (2 ^ i)) in
    let place : 32 * k + i ≡ x = omega arith in
    let row : inside_row n samples y z x ≡ false = ap (inside_row n samples y z) (sym place) ∙ bit-none (f i) none in
    ap (λ (b : Bool). b && inside_of n samples x y z) (sym (lt-ltb x n in-x)) ∙ row

-- no sample of the two rows is inside in either layer
pub row-outside : (low high : List ℕ) (y : ℕ) → ZeroWords low high y 8 → (n : ℕ) (samples : List Float) (z : ℕ)
    → LayerWords n samples z low → LayerWords n samples (z + 1) high → n ≤ 128 → y + 1 < n
    → (x : ℕ) → x + 1 < n → cell_edges (inside_of n samples) x y z ≡ []
row-outside low high y zeros n samples z lower upper most in-y x in-x =
    let g = inside_of n samples in
    let here : (k : ℕ) → k < 4 → (get_or low (4 * y + k) 0 ≡ 0) × (get_or high (4 * y + k) 0 ≡ 0) = λ k h. zeros k (omega arith) in
    let next : (k : ℕ) → k < 4 → (get_or low (4 * (y + 1) + k) 0 ≡ 0) × (get_or high (4 * (y + 1) + k) 0 ≡ 0) =
    λ k h.
    let e : 4 * y + (4 + k) ≡ 4 * (y + 1) + k = omega arith in
    subst (λ (m : ℕ). (get_or low m 0 ≡ 0) × (get_or high m 0 ≡ 0)) e (zeros (4 + k) (omega arith)) in
    let x_lt : x < n = omega arith in
    let y-lt : y < n = omega arith in
    let a : (i : ℕ) → i < n → g i y z ≡ false = λ i h. sample-outside n samples z low lower most i y h y-lt (λ k l. (here k l).0) in
    let b : (i : ℕ) → i < n → g i (y + 1) z ≡ false = λ i h. sample-outside n samples z low lower most i (y + 1) h in-y (λ k l. (next k l).0) in
    let c : (i : ℕ) → i < n → g i y (z + 1) ≡ false = λ i h. sample-outside n samples (z + 1) high upper most i y h y-lt (λ k l. (here k l).1) in
    let d : (i : ℕ) → i < n → g i (y + 1) (z + 1) ≡ false = λ i h. sample-outside n samples (z + 1) high upper most i (y + 1) h in-y (λ k l. (next k l).1) in
    cell_edges-outside g x y z
    (signs-byte g x y z ∙ rw (a x x_lt, a (x + 1) in-x, b x x_lt, b (x + 1) in-x, c x x_lt, c (x + 1) in-x, d x x_lt, d (x + 1) in-x))
