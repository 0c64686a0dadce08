-- `joined_cell`: the two words hold the new edges and the row, so the two passes are the cell.
use mathlib.Core.Path.{refl}
use Prim.Native.Nat.{◌/◌, ◌%◌, ◌^◌}
use native.Mathlib.Omega.{arith}
use lib.ListN.{get_or}
use Rattle.std.proofs.Common.{rules}
use Rattle.walk.specs.Edges.{edge_of}
use Rattle.walk_models.specs.Owned.{edge_visit, slot}
use Rattle.lent_mesh.specs.Grid.{inside_of}
use Rattle.lent_mesh.specs.Stored.{store_at, in_hand}
use Rattle.joined_slots.proofs.TwelveSlots.{slots-from}
use Rattle.joined_edges.proofs.PackedSteps.{row-of-numbers}
use Rattle.joined_edges.proofs.CellWords.{cell-words, class-lt, cell-passes}
use Rattle.joined_edges.proofs.joined_cell.Goals as goal

pub invariant_of-here : goal.invariant_of-here
invariant_of-here c =
    let cell = c.args.cell in
    record { slots_are = slots-from _ cell.size.n cell.x cell.y cell.z c.args.slots.now c.requires.rows_value.1 refl }

pub make_new-made-requires-clause-class_bound : goal.make_new-made-requires-clause-class_bound
make_new-made-requires-clause-class_bound c =
    let cell = c.args.cell in
    class-lt cell.x cell.y cell.z _ c.requires.case_value.1

pub invariant_of-list : goal.invariant_of-list
invariant_of-list c =
    let given = c.requires in
    record { known = (cell-words _ _ _ _ _ _ _ _ given.rows_value.0 c.from.ensures given.case_value.0 given.case_value.1).row-known }

pub put_numbers-written-requires-clause-place_fits : goal.put_numbers-written-requires-clause-place_fits
put_numbers-written-requires-clause-place_fits c =
    let given = c.requires in
    let w = cell-words _ _ _ _ _ _ _ _ given.rows_value.0 c.from.ensures given.case_value.0 given.case_value.1 in
    omega (arith, w.row-most, given.n_in_bounds.1, c.args.counts.ordered)

pub invariant_of-result : goal.invariant_of-result
invariant_of-result c =
    let given = c.requires in
    let w = cell-words _ _ _ _ _ _ _ _ given.rows_value.0 c.from.ensures given.case_value.0 given.case_value.1 in
    record { ordered = omega (arith, w.new-most, w.new-count, c.args.counts.ordered, c.make_new-made.ensures.made_value, c.put_numbers-written.ensures.place_value) }

pub returns-clause-result_after : goal.returns-clause-result_after
returns-clause-result_after c =
    let args = c.args in
    let cell = args.cell in
    let given = c.requires in
    let store = store_at cell.size.n cell.samples.now in
    let work = c.make_new-made.new.work in
    cell-passes (inside_of cell.size.n cell.samples.now) cell.x cell.y cell.z args.class args.case _ _ given.case_value.0 given.case_value.1
    (cell-words _ _ _ _ _ _ _ _ given.rows_value.0 c.from.ensures given.case_value.0 given.case_value.1)
    store cell.size.n (in_hand args.work.now args.vertices.now args.indices.now args.counts) _ _
    (c.make_new-made.ensures.by_index args.indices.now args.counts.written)
    (row-of-numbers store cell.size.n cell.x cell.y cell.z (get_or args.rows.now c.from.result 0 / 2 ^ 60) (get_or args.rows.now c.from.result 0 % 2 ^ 60)
    work args.indices.now _ _ c.make_new-made.result args.counts.written c.put_numbers-written.result
    (c.put_numbers-written.ensures.by_number (λ e. get_or work (slot cell.size.n (edge_of (edge_visit cell.x cell.y cell.z e))) 0) (λ e k below told. search rules))
    c.put_numbers-written.ensures.place_value)

pub returns-clause-written_bound : goal.returns-clause-written_bound
returns-clause-written_bound c =
    let given = c.requires in
    let w = cell-words _ _ _ _ _ _ _ _ given.rows_value.0 c.from.ensures given.case_value.0 given.case_value.1 in
    omega (arith, w.row-most, c.args.counts.ordered, c.put_numbers-written.ensures.place_value)
