-- `row_cells`: a row that is outside throughout is passed over; of another, word after word, so many cells are done.
use mathlib.Core.Path.{◌≡◌}
use Prim.Native.Nat.{◌-◌, ◌*◌, ◌≤◌, min}
use lib.ListN.{length}
use Rattle.lent_mesh.specs.Stored.{in_hand}
use Rattle.sign_cells.proofs.Turns.{Reached}
use Rattle.row_walk.proofs.WordLoop.{hand_count}
use Rattle.row_walk.proofs.row_cells.Given as goal

abbrev pub invariant-loop-k : goal.invariant-loop-k
invariant-loop-k g l = record {
  reached : Reached hand_count (λ x t. g.S.CellStep.step l.row.layer.size.n l.row.layer.samples.now l.row.layer.z l.row.y x t)
      (in_hand l.initial.work l.initial.vertices l.initial.indices l.initial.reached) (in_hand l.work l.vertices l.indices l.reached) (min (32 * l.k) (l.row.layer.size.n - 1)) (480 * l.k);
  work-same : length l.work ≡ length l.initial.work;
  vertices-same : length l.vertices ≡ length l.initial.vertices;
  indices-same : length l.indices ≡ length l.initial.indices;
}
