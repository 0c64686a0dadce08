-- Words after words are cells after cells and rows after rows: one word more, four words for a row, and a layer whose first rows are outside.
use mathlib.Core.Path.{◌≡◌, refl, sym, ◌∙◌, ap, ap₂}
use mathlib.Core.List.{List, []}
use Prim.Native.Nat.{ℕ, zero, suc, ◌+◌, ◌-◌, ◌*◌, ◌/◌, ◌%◌, ◌≤◌, ◌<◌, min}
use native.Mathlib.Nat.{add-zero}
use native.Mathlib.Numerals.{add-one}
use native.Mathlib.Omega.{arith}
use native.Mathlib.Decide.{dec_lt}
use lib.Dec.{eqb}
use lib.ListN.{get_or}
use lib.Ieee.{Float}
use Rattle.walk.specs.Walk.{Inside, cell_edges, times}
use Rattle.walk.specs.Ownership.{new_edges}
use Rattle.walk_models.specs.Owned.{Count, cell_new, count_cell, cells_of_row, cells_of_layer}
use Rattle.lent_mesh.specs.Grid.{inside_of}
use Rattle.sign_words.specs.Words.{LayerWords}
use Rattle.sign_cells.specs.Cells.{cells_in}
use Rattle.sign_cells.proofs.SetBits.{times-add, times-word}
use Rattle.sign_cells.proofs.Turns.{times-idle}
use Rattle.cell_tally.specs.declared.Corners.{Corners}
use Rattle.cell_tally.specs.Tally.{is_set, triangles_in, new_in}
use Rattle.layer_tally.specs.Layer.{Masks, Firsts, CornersFrom, word_step, WordsCounted}
use Rattle.layer_tally.proofs.CellCounts.{triangles-word, new_word, cells-counted}

times-same : {S : Type 0} (f g : ℕ → S → S) (k : ℕ) (s : S) → ((i : ℕ) (t : S) → f i t ≡ g i t) → times k f s ≡ times k g s
unfolding times
times-same f g zero s h = refl
times-same f g (suc k) s h = h k (times k f s) ∙ ap (g k) (times-same f g k s h)

-- ---- one word more

module _ (low high : List ℕ) (n at top : ℕ) (c : Corners) (masks firsts : List ℕ) (here : Count)
    (least : 2 ≤ n) (most : n ≤ 128) (within : at < 4 * (n - 1)) (masked : Masks n masks) (first : Firsts firsts) (corners : CornersFrom low high at c) where
  word-counted : (samples : List Float) (z : ℕ) → LayerWords n samples z low → LayerWords n samples (z + 1) high → 0 < z
      → ((j : ℕ) → j < 32 → is_set top j ≡ eqb (at / 4) 0)
      → ◌≡◌ {A = Count}
      (record { made = here.made + new_in c (get_or masks at 0) (get_or firsts at 0) top; written = here.written + 3 * triangles_in c (get_or masks at 0) })
      (word_step (inside_of n samples) n z at here)
  unfolding word_step
  word-counted samples z lower upper above tops =
      let y : ℕ = at / 4 in
      let k : ℕ = at % 4 in
      let signs = corners n samples y z k (omega arith) (omega arith) most (omega arith) lower upper in
      ap₂ (λ (a b : ℕ). record { made = here.made + a; written = here.written + b })
      (new_word (inside_of n samples) n y z k c (get_or masks at 0) signs (λ j l. masked at j (omega arith) l) (get_or firsts at 0) top above (λ j l. first at j (omega arith) l) tops)
      (triangles-word (inside_of n samples) n y z k c (get_or masks at 0) signs (λ j l. masked at j (omega arith) l))
      ∙ sym (cells-counted (inside_of n samples) z y (32 * k) (cells_in n k) here)

  pub words-next : (from : ℕ) (before : Count) → from ≤ at → WordsCounted low high n from at top before here
      → WordsCounted low high n from (at + 1) top before
      (record { made = here.made + new_in c (get_or masks at 0) (get_or firsts at 0) top; written = here.written + 3 * triangles_in c (get_or masks at 0) })
  unfolding times
  words-next from before le counted samples z lower upper above tops =
      let g = inside_of n samples in
      let one_more : (at + 1) - from ≡ suc (at - from) = omega arith in
      let place : from + (at - from) ≡ at = omega arith in
      word-counted samples z lower upper above (λ j l. tops at j le (omega arith) l)
      ∙ ap (word_step g n z at) (counted samples z lower upper above (λ i j a b l. tops i j a (omega arith) l))
      ∙ ap (λ (i : ℕ). word_step g n z i (times (at - from) (λ i t. word_step g n z (from + i) t) before)) (sym place)
      ∙ ap (λ (k : ℕ). times k (λ i t. word_step g n z (from + i) t) before) (sym one_more)

pub words-none : (low high : List ℕ) (n from top : ℕ) (before : Count) → WordsCounted low high n from from top before before
unfolding times
words-none low high n from top before samples z lower upper above tops =
    let none : 0 ≡ from - from = omega arith in
    ap (λ (k : ℕ). times k (λ i t. word_step (inside_of n samples) n z (from + i) t) before) none

-- ---- rows

module _ (g : Inside) (n z : ℕ) where
  word-is : (y k : ℕ) (t : Count) → k < 4 → word_step g n z (4 * y + k) t ≡ times (cells_in n k) (λ j c. count_cell g z y (32 * k + j) c) t
  unfolding word_step
  word-is y k t h =
      let word : (4 * y + k) % 4 ≡ k = omega arith in
      let row : (4 * y + k) / 4 ≡ y = omega arith in
      ap₂ (λ (a b : ℕ). times (cells_in n a) (λ j c. count_cell g z b (32 * a + j) c) t) word row

  word_more : (y k : ℕ) (s : Count)
      → times (min (32 * (k + 1)) (n - 1)) (λ x c. count_cell g z y x c) s
      ≡ times (cells_in n k) (λ j c. count_cell g z y (32 * k + j) c) (times (min (32 * k) (n - 1)) (λ x c. count_cell g z y x c) s)
  unfolding times
  word_more y k s =
      elim (dec_lt (n - 1) (32 * k)) [
        | yes past ↦
            let same : min (32 * (k + 1)) (n - 1) ≡ min (32 * k) (n - 1) = omega arith in
            let none : 0 ≡ cells_in n k = omega arith in
            ap (λ (i : ℕ). times i (λ x c. count_cell g z y x c) s) same
            ∙ ap (λ (i : ℕ). times i (λ j c. count_cell g z y (32 * k + j) c) (times (min (32 * k) (n - 1)) (λ x c. count_cell g z y x c) s)) none
        | no before ↦ times-word (λ x c. count_cell g z y x c) s (n - 1) k (omega arith)
      ]

  some_words : (y k : ℕ) (s : Count) → k ≤ 4
      → times k (λ k t. word_step g n z (4 * y + k) t) s ≡ times (min (32 * k) (n - 1)) (λ x c. count_cell g z y x c) s
  unfolding times
  some_words y zero s h =
      let none : 0 ≡ min (32 * 0) (n - 1) = omega arith in
      ap (λ (i : ℕ). times i (λ x c. count_cell g z y x c) s) none
  some_words y (suc k) s h =
      word-is y k (times k (λ k t. word_step g n z (4 * y + k) t) s) (omega arith)
      ∙ ap (times (cells_in n k) (λ j c. count_cell g z y (32 * k + j) c)) (some_words y k s (omega arith))
      ∙ sym (word_more y k s)
      ∙ ap (λ (i : ℕ). times (min (32 * i) (n - 1)) (λ x c. count_cell g z y x c) s) (add-one k)

  layer-words : (r : ℕ) (s : Count) → n ≤ 128 → times (4 * r) (λ i t. word_step g n z i t) s ≡ cells_of_layer (count_cell g) n z r s
  unfolding times cells_of_row cells_of_layer
  layer-words zero s most = refl
  layer-words (suc r) s most =
      let four-more : 4 * suc r ≡ 4 * r + 4 = omega arith in
      let all : min (32 * 4) (n - 1) ≡ n - 1 = omega arith in
      ap (λ (k : ℕ). times k (λ i t. word_step g n z i t) s) four-more
      ∙ times-add (λ i t. word_step g n z i t) s (4 * r) 4
      ∙ ap (times 4 (λ k t. word_step g n z (4 * r + k) t)) (layer-words r s most)
      ∙ some_words r 4 (cells_of_layer (count_cell g) n z r s) (omega arith)
      ∙ ap (λ (k : ℕ). times k (λ x c. count_cell g z r x c) (cells_of_layer (count_cell g) n z r s)) all

  cell-idle : (y x : ℕ) (t : Count) → cell_edges g x y z ≡ [] → count_cell g z y x t ≡ t
  unfolding cell_new new_edges
  cell-idle y x t none = rw (none, add-zero t.made, add-zero t.written) refl

  rows-idle : (r : ℕ) (s : Count) → ((x y : ℕ) → y < r → x + 1 < n → cell_edges g x y z ≡ []) → s ≡ cells_of_layer (count_cell g) n z r s
  unfolding cells_of_row cells_of_layer
  rows-idle r s none =
      times-idle (λ y t. cells_of_row (count_cell g) n z y (n - 1) t) s r
      (λ y h. sym (times-idle (λ x t. count_cell g z y x t) s (n - 1) (λ x l. cell-idle y x s (none x y h (omega arith)))))

  -- the words after the first rows, which are idle
  pub layer-from : (first : ℕ) (before after : Count) → n ≤ 128 → first ≤ n - 1 → ((x y : ℕ) → y < first → x + 1 < n → cell_edges g x y z ≡ [])
      → after ≡ times (4 * (n - 1) - 4 * first) (λ i t. word_step g n z (4 * first + i) t) before → after ≡ cells_of_layer (count_cell g) n z (n - 1) before
  layer-from first before after most le none e =
      let all : 4 * first + (4 * (n - 1) - 4 * first) ≡ 4 * (n - 1) = omega arith in
      e
      ∙ ap (times (4 * (n - 1) - 4 * first) (λ i t. word_step g n z (4 * first + i) t)) (rows-idle first before none ∙ sym (layer-words first before most))
      ∙ sym (times-add (λ i t. word_step g n z i t) before (4 * first) (4 * (n - 1) - 4 * first))
      ∙ ap (λ (k : ℕ). times k (λ i t. word_step g n z i t) before) all
      ∙ layer-words (n - 1) before most

  -- row 0, and then the others
  pub layer-begun : (before begun after : Count) → 2 ≤ n → n ≤ 128 → begun ≡ times (4 - 0) (λ i t. word_step g n z (0 + i) t) before
      → after ≡ times (4 * (n - 1) - 4) (λ i t. word_step g n z (4 + i) t) begun → after ≡ cells_of_layer (count_cell g) n z (n - 1) before
  layer-begun before begun after least most b e =
      let all : 4 + (4 * (n - 1) - 4) ≡ 4 * (n - 1) = omega arith in
      e
      ∙ ap (times (4 * (n - 1) - 4) (λ i t. word_step g n z (4 + i) t)) (b ∙ times-same _ _ 4 before (λ i t. ap (λ (k : ℕ). word_step g n z k t) (let o : 0 + i ≡ i = omega arith in o)))
      ∙ sym (times-add (λ i t. word_step g n z i t) before 4 (4 * (n - 1) - 4))
      ∙ ap (λ (k : ℕ). times k (λ i t. word_step g n z i t) before) all
      ∙ layer-words (n - 1) before most
