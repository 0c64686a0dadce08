-- `visit_all`: what is left to visit leads to the same end.
use mathlib.Core.Path.{ap, ◌∙◌}
use mathlib.Core.List.{List}
use Prim.Native.Nat.{ℕ}
use native.Mathlib.Omega.{arith}
use lib.ListN.{length}
use Rattle.packed_tables.specs.Listed.{edges_left}
use Rattle.packed_tables.proofs.PackedEdges.{edge-known, unpacked-length}
use Rattle.lent_mesh.specs.Stored.{in_hand}
use Rattle.held_visits.specs.CellMemory.{in_cell}
use Rattle.held_visits.proofs.EdgeVisits.{turn-taken, all-taken}
use Rattle.held_visits.proofs.visit_all.Goals as goal

pub visit-counts-requires-clause-edge_bound : goal.visit-counts-requires-clause-edge_bound
visit-counts-requires-clause-edge_bound c = edge-known c.loop-edge.edge-iterator c.in-Some.edge _ c.in-Some.ensures.steps

pub visit-counts-requires-clause-written_fits : goal.visit-counts-requires-clause-written_fits
visit-counts-requires-clause-written_fits c =
    let one = ap (λ (es : List ℕ). length es) c.in-Some.ensures.steps in
    omega (arith, one, c.loop-edge.invariant.2, unpacked-length c.args.edges.count c.args.edges.word, c.requires.written_fits)

pub loop-edge-preserved : goal.loop-edge-preserved
loop-edge-preserved c =
    let inv = c.loop-edge.invariant in
    let args = c.args in
    let cell = args.cell in
    let one = ap (λ (es : List ℕ). length es) c.in-Some.ensures.steps in (
      tt,
      tt,
      omega (arith, one, inv.2, c.visit-counts.ensures.written_value),
      c.visit-counts.auto.work ∙ inv.3,
      c.visit-counts.auto.vertices ∙ inv.4,
      c.visit-counts.auto.indices ∙ inv.5,
      turn-taken cell.size.n cell.samples.now cell.x cell.y cell.z c.in-Some.edge (edges_left c.loop-edge.edge-iterator) _ _
          (in_hand (in_cell c.loop-edge.work args.parity.layer args.parity.row c.loop-edge.current) c.loop-edge.vertices c.loop-edge.indices c.loop-edge.counts)
          (in_hand (in_cell c.visit-counts.new.work args.parity.layer args.parity.row c.visit-counts.new.current) c.visit-counts.new.vertices c.visit-counts.new.indices c.visit-counts.result)
          (in_hand (in_cell args.work.now args.parity.layer args.parity.row args.current.now) args.vertices.now args.indices.now args.counts)
          c.in-Some.ensures.steps c.visit-counts.ensures.result_after inv.6,
    )

pub returns-clause-result_after : goal.returns-clause-result_after
returns-clause-result_after c =
    let args = c.args in
    let cell = args.cell in
    all-taken cell.size.n cell.samples.now cell.x cell.y cell.z (edges_left c.loop-edge.edge-iterator) _ _
    (in_hand (in_cell args.work.now args.parity.layer args.parity.row args.current.now) args.vertices.now args.indices.now args.counts)
    c.in-None.ensures.steps.0 c.loop-edge.invariant.6

pub returns-clause-written_value : goal.returns-clause-written_value
returns-clause-written_value c =
    let none = ap (λ (es : List ℕ). length es) c.in-None.ensures.steps.0 in
    omega (arith, none, c.loop-edge.invariant.2, unpacked-length c.args.edges.count c.args.edges.word)
