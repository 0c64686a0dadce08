-- What the sign words of four rows say of the cells between them: the rows y and y + 1 of the sample layers z and z + 1. A private model, as Words.antt.
use Rattle.std.specs.Prelude.{Bool, true, not, ◌||◌, ◌≡◌, List, [], ℕ, ◌+◌, ◌-◌, ◌*◌, ◌≤◌, ◌<◌, min, eqb, Float}
use Rattle.marching_cubes_tables.specs.Rule.{bit_at}
use Rattle.walk.specs.Walk.{Inside, bit, signs, cell_edges}
use Rattle.lent_mesh.specs.Grid.{inside_of}
use Rattle.sign_cells.specs.declared.Quad.{Quad}
use Rattle.sign_words.specs.Words.{word_of, LayerWords}

-- ---- the four words

-- bit i of the word is the sign of sample 32 * k + i of the row, up to the right neighbour of the last of 32 cells
abbrev pub RowSigns : ℕ → List Float → ℕ → ℕ → ℕ → ℕ → Type 0
RowSigns n samples y z k word = (i : ℕ) → i ≤ 32 → 32 * k + i < n → bit_at word i ≡ bit (inside_of n samples (32 * k + i) y z)

abbrev pub LongWordFrom : List ℕ → ℕ → ℕ → ℕ → Type 0
LongWordFrom words y k r = (n : ℕ) (samples : List Float) (z : ℕ) → LayerWords n samples z words → n ≤ 128 → y < n → RowSigns n samples y z k r

-- they are those of the rows that the cells lie between
pub record QuadOf (n : ℕ) (samples : List Float) (y z k : ℕ) (q : Quad) : Type 0 where
  pub low : RowSigns n samples y z k q.a
  pub low-next : RowSigns n samples (y + 1) z k q.b
  pub high : RowSigns n samples y (z + 1) k q.c
  pub high-next : RowSigns n samples (y + 1) (z + 1) k q.d

-- from the words of two layers
abbrev pub QuadFrom : List ℕ → List ℕ → ℕ → ℕ → Quad → Type 0
QuadFrom low high y k q =
    (n : ℕ) (samples : List Float) (z : ℕ) → LayerWords n samples z low → LayerWords n samples (z + 1) high → n ≤ 128 → y + 1 < n
    → QuadOf n samples y z k q

-- ---- the cells

-- how many cells of a row lie in word k
abbrev pub cells_in : ℕ → ℕ → ℕ
cells_in n k = min 32 (n - 1 - 32 * k)

-- the corners of the cell are neither all outside nor all inside
unfoldable pub mixed : Inside → ℕ → ℕ → ℕ → Bool
mixed g x y z = not (eqb (signs g x y z) 0 || eqb (signs g x y z) 255)

-- a bit for each cell of word k, set where it is mixed
abbrev pub active_word : ℕ → List Float → ℕ → ℕ → ℕ → ℕ
active_word n samples y z k = word_of (λ i. mixed (inside_of n samples) (32 * k + i) y z) (cells_in n k)

abbrev pub ActiveFrom : Quad → ℕ → ℕ → ℕ → Type 0
ActiveFrom q n k r = (samples : List Float) (y z : ℕ) → QuadOf n samples y z k q → r ≡ active_word n samples y z k

-- r is the sign byte of cell i of the word
abbrev pub CaseFrom : Quad → ℕ → ℕ → Type 0
CaseFrom q i r =
    (n : ℕ) (samples : List Float) (y z k : ℕ) → QuadOf n samples y z k q → i < cells_in n k → r ≡ signs (inside_of n samples) (32 * k + i) y z

-- where r is true, no cell of row y visits anything
abbrev pub OutsideFrom : List ℕ → List ℕ → ℕ → Bool → Type 0
OutsideFrom low high y r =
    r ≡ true → (n : ℕ) (samples : List Float) (z : ℕ) → LayerWords n samples z low → LayerWords n samples (z + 1) high → n ≤ 128 → y + 1 < n
    → (x : ℕ) → x + 1 < n → cell_edges (inside_of n samples) x y z ≡ []
