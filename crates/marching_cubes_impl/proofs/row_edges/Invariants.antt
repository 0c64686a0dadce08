-- `row_edges`: at place 3 * i + j the edges so far are the row's first ones; a negative entry ends them, and so does the fifteenth.
use mathlib.Core.Path.{◌≡◌}
use Prim.Native.Nat.{◌+◌, ◌-◌, ◌*◌, ◌≤◌}
use lib.ListN.{take, length}
use Rattle.marching_cubes_tables.specs.Rule.{row_edges}
use Rattle.marching_cubes_impl.specs.Cell.{padded}
use Rattle.marching_cubes_impl.proofs.row_edges.Given as goal

abbrev pub invariant-loop-j : goal.invariant-loop-j
invariant-loop-j l = (l.j ≤ 3) × (3 * l.i + l.j ≤ length (row_edges l.signs)) × (l.edges ≡ padded 16 (take (3 * l.i + l.j) (row_edges l.signs)))

abbrev pub decreases-loop-j : goal.decreases-loop-j
decreases-loop-j l = 3 - l.j

abbrev pub invariant-row : goal.invariant-row
invariant-row l = (l.i ≤ 5) × (3 * l.i ≤ length (row_edges l.signs)) × (l.edges ≡ padded 16 (take (3 * l.i) (row_edges l.signs)))

abbrev pub decreases-row : goal.decreases-row
decreases-row l = 5 - l.i
