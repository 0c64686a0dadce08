-- `make_regular`: the six edges, one after the other.
use Rattle.held_visits.specs.CellMemory.{in_cell, hand}
use Rattle.regular_edges.proofs.NamedEdges.{six-named}
use Rattle.regular_edges.proofs.make_regular.Goals as goal

pub returns : goal.returns
returns c =
    let args = c.args in
    let cell = args.cell in
    λ is m w. six-named cell.size.n cell.samples.now cell.x cell.y cell.z args.regular args.made
    (hand (in_cell args.work.now args.parity.layer args.parity.row args.current.now) args.vertices.now is m w) _ _ _ _ _ _
    (c.make_named.ensures is m w) (c.make_named-2.ensures is m w) (c.make_named-3.ensures is m w)
    (c.make_named-4.ensures is m w) (c.make_named-5.ensures is m w) (c.make_named-6.ensures is m w)
