-- What is known of the meshes that `specs/Numbering.antt` defines, each once, in words and as a statement. `g` says which samples are inside, n is
-- the size and `layers` the number of layers of cells; V is the length of `made` and I the length of `indices`. The proofs are in the files beside
-- this one, and the cases of document 01 in `Cases.antt`.
use mathlib.Core.Path.{◌≡◌, refl}
use mathlib.Core.Bool.{true, ◌&&◌, not}
use mathlib.Core.List.{[], map}
use Prim.Native.Nat.{ℕ, suc, ◌-◌, ◌*◌, ◌%◌, ◌^◌, ◌<◌, ◌≤◌}
use lib.Dec.{eqb, lit<}
use lib.ListN.{length, get_or, take}
use Rattle.marching_cubes_tables.specs.Rule.{member}
use Rattle.walk.specs.Walk.{Visit, Inside, visit_of, cell_edges, visits}
use Rattle.walk.specs.Edges.{Edge, edge_of, crosses, in_box, has, distinct, crossings}
use Rattle.walk.specs.Cache.{Cache, fresh}
use Rattle.walk.specs.Numbering.{Numbering, empty, hooks, mesh, joined, crate}
use Rattle.walk.specs.Ownership.{owned}
use Rattle.walk.proofs.Each.{Each}
use Rattle.walk.proofs.WalkInduction.{before}
use Rattle.walk.proofs.NewVisits.{look-owned}
use Rattle.walk.proofs.Crossings.{made-once, made-exactly, made-count}
use Rattle.walk.proofs.Counts.{Visited, no_visit, indices-count, indices-threes, made-le-indices, indices-most, indices-fit, made-visited}
use Rattle.walk.proofs.IndicesBelow.{Held, joined-sound, crate-sound, fresh-held, bounded-end, bounded-before}
use Rattle.walk.proofs.CrateNumbering.{without_cells, cells-never-matter, absent-zero}

-- ---- joined

-- No grid edge has two vertices.
pub joined_once : (g : Inside) (n layers : ℕ) → distinct (map edge_of (mesh joined [] g n layers).made) ≡ true
joined_once = made-once

-- The edges that have a vertex are exactly the grid edges of the box whose ends differ in sign.
pub joined-exactly : (g : Inside) (n layers : ℕ) → 2 ≤ n → 1 ≤ layers → (k : Edge)
    → has k (map edge_of (mesh joined [] g n layers).made) ≡ (in_box n layers k && crosses g k)
joined-exactly = made-exactly

-- So V is their number.
pub joined-count : (g : Inside) (n layers : ℕ) → 2 ≤ n → 1 ≤ layers
    → length (mesh joined [] g n layers).made ≡ length (crossings g n layers)
joined-count = made-count

-- Which visits make a vertex follows from the cell's place alone: edge e is new in the cell (x, y, z) exactly if `owned` says so of x = 0, y = 0 and
-- z = 0, and the cell has not named it already.
pub joined-ownership : (g : Inside) (n z y x j : ℕ) → y < n - 1 → x < n - 1 → j < length (cell_edges g x y z)
    → eqb (joined.look (visit_of g x y z j) (before (hooks joined) g n z y x j (empty [])).memory) 0
    ≡ (owned (eqb x 0) (eqb y 0) (eqb z 0) (get_or (cell_edges g x y z) j 0) && not (member (get_or (cell_edges g x y z) j 0) (take j (cell_edges g x y z))))
joined-ownership = look-owned

-- ---- either numbering

module _ {C : Type 0} (m : Numbering C) (c : C) (g : Inside) (n layers : ℕ) where
  -- I is the number of visits.
  pub index-count : length (mesh m c g n layers).indices ≡ length (visits g n layers)
  index-count = indices-count m c g n layers

  -- It is a multiple of three.
  pub index-threes : length (mesh m c g n layers).indices % 3 ≡ 0
  index-threes = indices-threes m c g n layers

  -- V is at most I, and I at most fifteen for each cell.
  pub counts-bound :
      (length (mesh m c g n layers).made ≤ length (mesh m c g n layers).indices)
      × (length (mesh m c g n layers).indices ≤ 15 * (layers * (n - 1) * (n - 1)))
  counts-bound = (made-le-indices m c g n layers, indices-most m c g n layers)

  -- To size 512 both fit u32.
  pub counts-fit : n ≤ 512 → layers ≤ 512
      → (length (mesh m c g n layers).made ≤ length (mesh m c g n layers).indices) × (length (mesh m c g n layers).indices ≤ 15 * 511 * 511 * 512)
      × (15 * 511 * 511 * 512 < 2 ^ 32)
  counts-fit hn hl = (made-le-indices m c g n layers, indices-fit m c g n layers hn hl, lit< tt)

  -- Every vertex was made at a visit to one of the twelve edges of a cell of the walk, and the ends of that edge differ in sign.
  pub vertices-cross : Each (Visited g n layers) no_visit (mesh m c g n layers).made
  vertices-cross = made-visited m c g n layers

-- Every index is under V at the end,
pub joined-indices : (g : Inside) (n layers : ℕ)
    → Each (λ i. i < length (mesh joined [] g n layers).made) 0 (mesh joined [] g n layers).indices
joined-indices g n layers = (bounded-end (λ made ms. length ms ≡ made) joined joined-sound [] refl g n layers).indices

pub crate-indices : (g : Inside) (n layers : ℕ)
    → Each (λ i. i < length (mesh (crate n) fresh g n layers).made) 0 (mesh (crate n) fresh g n layers).indices
crate-indices g n layers = (bounded-end Held (crate n) (crate-sound n) fresh fresh-held g n layers).indices

-- and under the number of vertices made so far when it is written: after each visit j of each cell.
pub joined-indices-written : (g : Inside) (n layers z y x j : ℕ) → z < layers → y < n - 1 → x < n - 1 → j < length (cell_edges g x y z)
    → Each (λ i. i < length (before (hooks joined) g n z y x (suc j) (empty [])).made) 0 (before (hooks joined) g n z y x (suc j) (empty [])).indices
joined-indices-written g n layers z y x j lz ly lx lj =
    (bounded-before (λ made ms. length ms ≡ made) joined joined-sound [] refl g n layers z y x (suc j) lz ly lx lj).indices

pub crate-indices-written : (g : Inside) (n layers z y x j : ℕ) → z < layers → y < n - 1 → x < n - 1 → j < length (cell_edges g x y z)
    → Each (λ i. i < length (before (hooks (crate n)) g n z y x (suc j) (empty fresh)).made) 0 (before (hooks (crate n)) g n z y x (suc j) (empty fresh)).indices
crate-indices-written g n layers z y x j lz ly lx lj =
    (bounded-before Held (crate n) (crate-sound n) fresh fresh-held g n layers z y x (suc j) lz ly lx lj).indices

-- ---- crate

-- `cells` never matters: wiped before every call, it leaves the same mesh. So code need not hold it.
pub crate-without-cells : (g : Inside) (n layers : ℕ)
    → ((mesh (without_cells n) fresh g n layers).made ≡ (mesh (crate n) fresh g n layers).made)
    × ((mesh (without_cells n) fresh g n layers).indices ≡ (mesh (crate n) fresh g n layers).indices)
crate-without-cells = cells-never-matter

-- At most one vertex number ever reads as absent, number 0: a number that was noted where none was, and that the same visit, asked again, does not
-- find, is 0. By `choose` the number noted is the count of vertices so far, so 0 is given once.
pub crate-absent : (n : ℕ) (v : Visit) (i : ℕ) (c : Cache) → (crate n).look v c ≡ 0 → (crate n).look v ((crate n).note v i c) ≡ 0 → i ≡ 0
crate-absent = absent-zero
