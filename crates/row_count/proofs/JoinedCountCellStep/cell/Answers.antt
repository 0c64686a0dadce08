-- `cell`: what `joined_counts` promises, beside the memory and the outputs.
use mathlib.Core.Path.{ap}
use Rattle.lent_mesh.specs.Stored.{in_hand}
use Rattle.lent_mesh.specs.Grid.{inside_of}
use Rattle.row_count.specs.Steps.{beside}
use Rattle.row_count.proofs.CountCell.{joined_step}
use Rattle.row_count.proofs.JoinedCountCellStep.cell.Goals as goal

pub returns-clause-result_after : goal.returns-clause-result_after
returns-clause-result_after c =
    let here = c.args.here in
    let layer = here.row.layer in
    let g = inside_of layer.size.n layer.samples.now in
    ap (beside (in_hand c.args.work.now c.args.vertices.now c.args.indices.now c.args.counts))
    (joined_step layer.size.n g layer.z here.row.y here.x c.args.work.now c.args.counts c.joined_counts.result (c.joined_counts.ensures.result_value g here.x here.row.y layer.z here.case_is here.class_is))
