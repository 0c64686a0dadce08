-- `cell`: what `held_cell` promises, beside the outputs.
use mathlib.Core.Path.{ap}
use Rattle.lent_mesh.specs.Stored.{in_hand}
use Rattle.lent_mesh.specs.Grid.{inside_of}
use Rattle.row_count.specs.Steps.{beside}
use Rattle.row_count.proofs.CountCell.{crate-step}
use Rattle.row_count.proofs.CrateCountCellStep.cell.Goals as goal

pub returns-clause-result_after : goal.returns-clause-result_after
returns-clause-result_after c =
    let here = c.args.here in
    let layer = here.row.layer in
    ap (beside (in_hand c.args.work.now c.args.vertices.now c.args.indices.now c.args.counts))
    (crate-step layer.size.n (inside_of layer.size.n layer.samples.now) layer.z here.row.y here.x _ _ _ _ _ here.row.parity_is.0 here.row.parity_is.1 here.case_is c.held_cell.ensures.result_after)
