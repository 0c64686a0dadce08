-- `cell`: what `crate_cell` promises, without the cache around the working memory.
use Rattle.row_walk.proofs.OneCell.{crate-step}
use Rattle.row_walk.proofs.fill.CrateFillCellStep.cell.Goals as goal

pub returns-clause-result_after : goal.returns-clause-result_after
returns-clause-result_after c =
    let parity = c.args.here.row.parity_is in
    crate-step _ _ _ _ _ _ _ _ _ parity.0 parity.1 c.crate_cell.ensures.result_after
