-- `make_inner`: the upper plane's edges and then the one along z are the list of pairs.
use Prim.Native.Nat.{◌/◌, ◌%◌, ◌^◌}
use Rattle.packed_tables.specs.Unpacked.{marked, upper_marked}
use Rattle.lent_mesh.specs.Stored.{store_at}
use Rattle.inner_cells.specs.Ranked.{make_ranked, hand}
use Rattle.inner_cells.proofs.RankedEdges.{each_both}
use Rattle.inner_cells.proofs.make_inner.Goals as goal

pub returns-clause-by_index : goal.returns-clause-by_index
returns-clause-by_index c =
    let args = c.args in
    let cell = args.here.cell in
    let word = args.word in
    let make = make_ranked (store_at cell.size.n cell.samples.now) cell.size.n cell.z cell.y cell.x in
    λ l written.
    each_both make (upper_marked word) (marked 10 (word / 2 ^ 24 % 16)) (hand args.work.now args.vertices.now l args.made written) _ _
    (each_both make (marked 5 (word / 2 ^ 16 % 16)) (marked 6 (word / 2 ^ 20 % 16)) (hand args.work.now args.vertices.now l args.made written) _ _
    (c.make_marked.ensures l written) (c.make_marked-2.ensures l written))
    (c.make_marked-3.ensures l written)
