-- `make_named`: an edge that the word names, or nothing is done.
use Rattle.held_visits.specs.CellMemory.{in_cell, hand}
use Rattle.regular_edges.proofs.NamedEdges.{named-there, named-absent}
use Rattle.regular_edges.proofs.make_named.Goals as goal

pub returns-then-regular-edge-eq1 : goal.returns-then-regular-edge-eq1
returns-then-regular-edge-eq1 c =
    let args = c.args in
    let cell = args.cell in
    λ is m w. named-there cell.size.n cell.samples.now cell.x cell.y cell.z args.regular args.made args.edge (hand (in_cell args.work.now args.parity.layer args.parity.row args.current.now) args.vertices.now is m w) _
    c.if-regular-edge-eq1.true (c.make_edge.ensures is m w)

pub returns-else-regular-edge-eq1 : goal.returns-else-regular-edge-eq1
returns-else-regular-edge-eq1 c =
    let args = c.args in
    let cell = args.cell in
    λ is m w. named-absent cell.size.n cell.samples.now cell.x cell.y cell.z args.regular args.made args.edge (hand (in_cell args.work.now args.parity.layer args.parity.row args.current.now) args.vertices.now is m w)
    c.if-regular-edge-eq1.false
