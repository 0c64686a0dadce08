-- `visit_all`: what is left to visit leads to the same end.
use mathlib.Core.Path.{◌≡◌}
use Prim.Native.Nat.{◌+◌}
use lib.ListN.{length}
use Rattle.packed_tables.specs.Listed.{edges_left}
use Rattle.lent_mesh.specs.Stored.{in_hand}
use Rattle.held_visits.specs.CellMemory.{in_cell}
use Rattle.held_visits.proofs.EdgeVisits.{ToGo}
use Rattle.held_visits.proofs.visit_all.Given as goal

abbrev pub invariant-loop-edge : goal.invariant-loop-edge
invariant-loop-edge l =
    (goal.iterator-loop-edge).can_next l.edge-iterator × (goal.iterator-loop-edge).is_finite l.edge-iterator
    × (l.counts.written + length (edges_left l.edge-iterator) ≡ l.initial.counts.written + length (edges_left l.fn.edges))
    × (length l.work ≡ length l.initial.work)
    × (length l.vertices ≡ length l.initial.vertices)
    × (length l.indices ≡ length l.initial.indices)
    × ToGo l.cell.size.n l.cell.samples.now l.cell.x l.cell.y l.cell.z (edges_left l.edge-iterator)
    (in_hand (in_cell l.work l.parity.layer l.parity.row l.current) l.vertices l.indices l.counts) (edges_left l.fn.edges)
    (in_hand (in_cell l.initial.work l.parity.layer l.parity.row l.initial.current) l.initial.vertices l.initial.indices l.initial.counts)
