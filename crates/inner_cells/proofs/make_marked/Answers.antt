-- `make_marked`: with a mark there is one pair and one store of each kind, without there is none.
use mathlib.Core.Path.{refl}
use Rattle.lent_mesh.specs.Stored.{store_at}
use Rattle.inner_cells.proofs.RankedEdges.{marked-absent, marked-present}
use Rattle.inner_cells.proofs.make_marked.Goals as goal

-- a mark
pub returns-then-mark-gt0 : goal.returns-then-mark-gt0
returns-then-mark-gt0 c =
    let args = c.args in
    let cell = args.here.cell in
    λ l written.
    marked-present (store_at cell.size.n cell.samples.now) cell.size.n cell.x cell.y cell.z args.edge args.mark args.made written c.place.result
    args.work.now l _ args.vertices.now _ c.place.ensures.slot_of c.requires.edge_bound.0 c.if-mark-gt0.true refl c.put_vertex.ensures

-- no mark
pub returns-else-mark-gt0 : goal.returns-else-mark-gt0
returns-else-mark-gt0 c =
    let args = c.args in
    let cell = args.here.cell in
    λ l written.
    marked-absent (store_at cell.size.n cell.samples.now) cell.size.n cell.x cell.y cell.z args.edge args.mark _ c.if-mark-gt0.false
