-- `cell`: what `joined_cell` promises.
use Rattle.row_walk.proofs.OneCell.{joined_step}
use Rattle.row_walk.proofs.fill.JoinedFillCellStep.cell.Goals as goal

pub returns-clause-result_after : goal.returns-clause-result_after
returns-clause-result_after c = joined_step _ _ _ _ _ _ _ c.joined_cell.ensures.result_after
