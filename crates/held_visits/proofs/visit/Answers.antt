-- `visit`: a number of `current`, or the next vertex.
use mathlib.Core.Path.{refl}
use native.Mathlib.Omega.{arith}
use lib.ListN.{get_or}
use Rattle.held_visits.proofs.HeldVisit.{visit-named, visit-made}
use Rattle.held_visits.proofs.visit.Goals as goal

pub returns-then-number-gt0-clause-result_after : goal.returns-then-number-gt0-clause-result_after
returns-then-number-gt0-clause-result_after c =
    let args = c.args in
    let cell = args.cell in
    visit-named cell.size.n cell.samples.now cell.x cell.y cell.z args.edge args.parity.layer args.parity.row args.work.now args.current.now args.vertices.now
    args.indices.now args.counts (get_or args.current.now args.edge 0) _ refl (omega (arith, c.if-number-gt0.true)) c.put_index.ensures

pub returns-clause-result_after : goal.returns-clause-result_after
returns-clause-result_after c =
    let args = c.args in
    let cell = args.cell in
    visit-made cell.size.n cell.samples.now cell.x cell.y cell.z args.edge args.parity.layer args.parity.row args.work.now args.current.now args.vertices.now
    args.indices.now args.counts (get_or args.current.now args.edge 0) _ _ _ _ refl (omega (arith, c.if-number-gt0.false)) c.make_edge.ensures
    c.put_index-2.ensures
