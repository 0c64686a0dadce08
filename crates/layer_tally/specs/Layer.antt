-- The cells of a layer word by word: row y has the words 4 * y to 4 * y + 3, of 32 cells each. A private model, which the contracts of the count cite; nobody
-- need believe it.
use Rattle.std.specs.Prelude.{◌≡◌, List, [], ℕ, ◌+◌, ◌-◌, ◌*◌, ◌/◌, ◌%◌, ◌≤◌, ◌<◌, eqb, ltb, get_or, Float}
use Rattle.walk.specs.Walk.{Inside, cell_edges, times}
use Rattle.walk_models.specs.Owned.{Count, count_cell, cells_of_layer}
use Rattle.lent_mesh.specs.Grid.{inside_of}
use Rattle.sign_words.specs.Words.{LayerWords}
use Rattle.sign_cells.specs.Cells.{cells_in}
use Rattle.cell_tally.specs.declared.Corners.{Corners}
use Rattle.cell_tally.specs.Tally.{corner, is_set}

-- bit j of word i is set where cell 32 * (i % 4) + j is one of the n - 1 of its row
abbrev pub Masks : ℕ → List ℕ → Type 0
Masks n masks = (i j : ℕ) → i < 512 → j < 32 → is_set (get_or masks i 0) j ≡ ltb (32 * (i % 4) + j + 1) n

-- bit j of word i is set where it is the first of its row
abbrev pub Firsts : List ℕ → Type 0
Firsts firsts = (i j : ℕ) → i < 512 → j < 32 → is_set (get_or firsts i 0) j ≡ eqb (32 * (i % 4) + j) 0

-- r has the bits of a word from the second on, and then the first of the next word
pub record NextFrom (word next r : ℕ) : Type 0 where
  pub inner : (j : ℕ) → j < 31 → is_set r j ≡ is_set word (j + 1)
  pub last : is_set r 31 ≡ is_set next 0

-- the eight signs of cell (x, y, z)
pub record SignsOf (g : Inside) (x y z : ℕ) (c : Corners) (j : ℕ) : Type 0 where
  pub s0 : is_set (corner c 0) j ≡ g x y z
  pub s1 : is_set (corner c 1) j ≡ g (x + 1) y z
  pub s2 : is_set (corner c 2) j ≡ g (x + 1) (y + 1) z
  pub s3 : is_set (corner c 3) j ≡ g x (y + 1) z
  pub s4 : is_set (corner c 4) j ≡ g x y (z + 1)
  pub s5 : is_set (corner c 5) j ≡ g (x + 1) y (z + 1)
  pub s6 : is_set (corner c 6) j ≡ g (x + 1) (y + 1) (z + 1)
  pub s7 : is_set (corner c 7) j ≡ g x (y + 1) (z + 1)

-- the corners of the cells of word k of row y, from the words of two layers
abbrev pub CornersFrom : List ℕ → List ℕ → ℕ → Corners → Type 0
CornersFrom low high at c =
    (n : ℕ) (samples : List Float) (y z k : ℕ) → at ≡ 4 * y + k → k < 4 → n ≤ 128 → y + 1 < n
    → LayerWords n samples z low → LayerWords n samples (z + 1) high
    → (j : ℕ) → j < 32 → 32 * k + j + 1 < n → SignsOf (inside_of n samples) (32 * k + j) y z c j

-- the cells of word i are counted
unfoldable pub word_step : Inside → ℕ → ℕ → ℕ → Count → Count
word_step g n z i t = times (cells_in n (i % 4)) (λ j c. count_cell g z (i / 4) (32 * (i % 4) + j) c) t

-- the words from one place up to another, above the lowest layer; `top` is every bit in row 0 and none elsewhere
abbrev pub WordsCounted : List ℕ → List ℕ → ℕ → ℕ → ℕ → ℕ → Count → Count → Type 0
WordsCounted low high n from to top before after =
    (samples : List Float) (z : ℕ) → LayerWords n samples z low → LayerWords n samples (z + 1) high → 0 < z
    → ((i j : ℕ) → from ≤ i → i < to → j < 32 → is_set top j ≡ eqb (i / 4) 0)
    → after ≡ times (to - from) (λ i t. word_step (inside_of n samples) n z (from + i) t) before

-- no cell of the first rows visits anything
abbrev pub RowsOutside : List ℕ → List ℕ → ℕ → ℕ → Type 0
RowsOutside low high n rows =
    (samples : List Float) (z : ℕ) → LayerWords n samples z low → LayerWords n samples (z + 1) high
    → (x y : ℕ) → y < rows → x + 1 < n → cell_edges (inside_of n samples) x y z ≡ []

abbrev pub LayerCounted : List ℕ → List ℕ → ℕ → Count → Count → Type 0
LayerCounted low high n before after =
    (samples : List Float) (z : ℕ) → LayerWords n samples z low → LayerWords n samples (z + 1) high → 0 < z
    → after ≡ cells_of_layer (count_cell (inside_of n samples)) n z (n - 1) before
