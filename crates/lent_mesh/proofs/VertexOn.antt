-- The vertex that `vertex_on` works out is the defined one, where its six offsets are those of the tables.
use mathlib.Core.Path.{◌≡◌, ◌∙◌}
use mathlib.Core.List.{List}
use Prim.Native.Nat.{ℕ, ◌+◌, ◌≤◌}
use native.Mathlib.Omega.{arith}
use lib.ListN.{get_or}
use lib.Ieee.{Float, nan}
use Rattle.marching_cubes_tables.specs.Tables.{corner_offset, edge_end}
use Rattle.marching_cubes_impl.specs.declared.vertex.Vertex.{Vertex}
use Rattle.positions.specs.Position.{GridPoint, step_of, corner_of, sample_at, vertex_between, position_of}
use Rattle.lent_mesh.specs.Grid.{position_at}
use Rattle.lent_mesh.specs.Stored.{Coordinates, CellOf}

abbrev point : ℕ → ℕ → ℕ → GridPoint
point x y z = record { x = x; y = y; z = z }

module _ (n x y z e : ℕ) (samples coordinates : List Float) (cell : CellOf samples n x y z) (known : Coordinates n coordinates) where
  pub position_at-known : (i0 j0 k0 i1 j1 k1 : ℕ) (a b : Float) (r : Vertex)
      → i0 ≤ 1 → j0 ≤ 1 → k0 ≤ 1 → i1 ≤ 1 → j1 ≤ 1 → k1 ≤ 1
      → i0 ≡ corner_offset (edge_end e 0) 0 → j0 ≡ corner_offset (edge_end e 0) 1 → k0 ≡ corner_offset (edge_end e 0) 2
      → i1 ≡ corner_offset (edge_end e 1) 0 → j1 ≡ corner_offset (edge_end e 1) 1 → k1 ≡ corner_offset (edge_end e 1) 2
      → a ≡ sample_at n samples (point (x + i0) (y + j0) (z + k0))
      → b ≡ sample_at n samples (point (x + i1) (y + j1) (z + k1))
      → r ≡ vertex_between
      (record { x = get_or coordinates (x + i0) nan; y = get_or coordinates (y + j0) nan; z = get_or coordinates (z + k0) nan })
      (record { x = get_or coordinates (x + i1) nan; y = get_or coordinates (y + j1) nan; z = get_or coordinates (z + k1) nan }) a b
      → r ≡ position_at n samples (record { x = x; y = y; z = z; edge = e })
  unfolding position_at position_of
  position_at-known i0 j0 k0 i1 j1 k1 a b r li0 lj0 lk0 li1 lj1 lk1 ei0 ej0 ek0 ei1 ej1 ek1 ea eb er =
      let in-x = cell.in-x in
      let in-y = cell.in-y in
      let in-z = cell.in-z in
      let x0 : get_or coordinates (x + i0) nan ≡ corner_of (x + i0) (step_of n) = known (x + i0) (omega arith) in
      let y0 : get_or coordinates (y + j0) nan ≡ corner_of (y + j0) (step_of n) = known (y + j0) (omega arith) in
      let z0 : get_or coordinates (z + k0) nan ≡ corner_of (z + k0) (step_of n) = known (z + k0) (omega arith) in
      let x1 : get_or coordinates (x + i1) nan ≡ corner_of (x + i1) (step_of n) = known (x + i1) (omega arith) in
      let y1 : get_or coordinates (y + j1) nan ≡ corner_of (y + j1) (step_of n) = known (y + j1) (omega arith) in
      let z1 : get_or coordinates (z + k1) nan ≡ corner_of (z + k1) (step_of n) = known (z + k1) (omega arith) in
      er ∙ rw (x0, y0, z0, x1, y1, z1, ea, eb, ei0, ej0, ek0, ei1, ej1, ek1)
