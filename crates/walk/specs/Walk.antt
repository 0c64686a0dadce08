-- The walk of document 01, "Grid and walk", over any state: z outermost, then y, then x, then the edges that the cell's row of the table names,
-- with something done at each visit and after each cell, row and layer. Held to W1 to W6 by `proofs/Cases.antt`, and to the Rust by the oracle.
use Rattle.std.specs.Prelude.{Bool, cond, List, [], ◌∷◌, ◌++◌, map, ℕ, zero, suc, ◌+◌, ◌-◌, ◌*◌, get_or, length}
use Rattle.marching_cubes_tables.specs.Tables.{corner_offset}
use Rattle.marching_cubes_tables.specs.Rule.{row_edges}

-- is the sample (x, y, z) inside?
abbrev pub Inside : Type 0
Inside = ℕ → ℕ → ℕ → Bool

-- one edge, 0 to 11, of the cell (x, y, z)
pub record Visit : Type 0 where
  pub x : ℕ
  pub y : ℕ
  pub z : ℕ
  pub edge : ℕ

-- ---- what a cell visits

abbrev pub bit : Bool → ℕ
bit b = cond b 1 0

-- bit i is set where entry i of the list is true
abbrev pub byte_of : List Bool → ℕ
byte_of [] = 0
byte_of (b ∷ bs) = bit b + 2 * byte_of bs

-- is corner c of the cell (x, y, z) inside?
abbrev pub corner_inside : Inside → ℕ → ℕ → ℕ → ℕ → Bool
corner_inside g x y z c = g (x + corner_offset c 0) (y + corner_offset c 1) (z + corner_offset c 2)

-- the sign byte of the cell
unfoldable pub signs : Inside → ℕ → ℕ → ℕ → ℕ
signs g x y z = byte_of (map (corner_inside g x y z) (0 ∷ 1 ∷ 2 ∷ 3 ∷ 4 ∷ 5 ∷ 6 ∷ 7 ∷ []))

-- the edges that the cell visits, in order
unfoldable pub cell_edges : Inside → ℕ → ℕ → ℕ → List ℕ
cell_edges g x y z = row_edges (signs g x y z)

abbrev pub visit_of : Inside → ℕ → ℕ → ℕ → ℕ → Visit
visit_of g x y z j = record { x = x; y = y; z = z; edge = get_or (cell_edges g x y z) j 0 }

-- ---- the walk

-- f 0, then f 1, .. then f (k - 1)
unfoldable pub times : {S : Type 0} → ℕ → (ℕ → S → S) → S → S
times zero f s = s
times (suc k) f s = f k (times k f s)

-- what is done at a visit, and after each cell, row and layer
pub record Hooks (S : Type 0) : Type 0 where
  pub visit : Visit → S → S
  pub cell_end : S → S
  pub row_end : S → S
  pub layer_end : ℕ → S → S

-- over a grid of size n
module _ {S : Type 0} (h : Hooks S) (g : Inside) (n : ℕ) where
  unfoldable pub cell : ℕ → ℕ → ℕ → S → S
  cell z y x s = h.cell_end (times (length (cell_edges g x y z)) (λ j t. h.visit (visit_of g x y z j) t) s)

  -- the first k cells of row y of layer z
  unfoldable pub cells : ℕ → ℕ → ℕ → S → S
  cells z y k s = times k (λ x t. cell z y x t) s

  -- the first k rows of layer z
  unfoldable pub rows : ℕ → ℕ → S → S
  rows z k s = times k (λ y t. h.row_end (cells z y (n - 1) t)) s

  -- the first k layers: document 01's grid has n
  unfoldable pub walk : ℕ → S → S
  walk k s = times k (λ z t. h.layer_end z (rows z (n - 1) t)) s

-- each visit is listed
unfoldable pub listing : Hooks (List Visit)
listing = record { visit = λ v l. l ++ (v ∷ []); cell_end = λ l. l; row_end = λ l. l; layer_end = λ z l. l }

-- all visits, in order
unfoldable pub visits : Inside → ℕ → ℕ → List Visit
visits g n layers = walk listing g n layers []
