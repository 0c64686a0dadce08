-- `place`: the slot of an edge of a cell is in the working memory.
use native.Mathlib.Omega.{arith}
use Rattle.joined_slots.proofs.TwelveSlots.{slot-in-work, slot-small}
use Rattle.joined_slots.proofs.slot_cell.SlotCell.place.Goals as goal

pub overflow_add-result : goal.overflow_add-result
overflow_add-result c =
    let here = c.args.self in
    let cell = here.cell.of_grid in
    omega (arith, slot-small here.cell.size.n _ cell.most (slot-in-work here.at here.cell.size.n here.cell.x here.cell.y here.cell.z c.args.edge here.slots.now here.slots_are cell.in-x cell.in-y c.requires))

pub returns-clause-in_work : goal.returns-clause-in_work
returns-clause-in_work c =
    let here = c.args.self in
    let cell = here.cell.of_grid in
    omega (arith, slot-in-work here.at here.cell.size.n here.cell.x here.cell.y here.cell.z c.args.edge here.slots.now here.slots_are cell.in-x cell.in-y c.requires)
