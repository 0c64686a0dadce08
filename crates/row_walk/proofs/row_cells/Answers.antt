-- `row_cells`: a row that is outside throughout is passed over; of another, word after word, so many cells are done.
use mathlib.Core.Path.{◌≡◌, refl}
use Prim.Native.Nat.{◌-◌, ◌*◌, ◌<◌}
use native.Mathlib.Omega.{arith}
use borrow.Author.Rules.{rules}
use Rattle.walk_models.specs.Owned.{cells_of_row}
use Rattle.sign_cells.proofs.Turns.{reached-no-word, reached-word, reached-row}
use Rattle.row_walk.proofs.WordLoop.{row-idle}
use Rattle.row_walk.proofs.row_cells.Goals as goal

pub returns-then-outside-clause-result_after : goal.returns-then-outside-clause-result_after
returns-then-outside-clause-result_after g c =
    let row = c.args.row in
    let layer = row.layer in
    let none = c.outside.ensures c.if-outside.true layer.size.n layer.samples.now layer.z layer.low_are layer.high_are layer.of_grid.most row.in_y in
    row-idle g.S.CellStep.step layer.size.n layer.samples.now layer.z row.y _ g.met.S.CellStep.idle none

pub loop-k-init : goal.loop-k-init
loop-k-init g c = record {
  reached = reached-no-word _ _ _ c.args.row.layer.size.n c.args.counts.ordered;
  work-same = refl;
  vertices-same = refl;
  indices-same = refl;
}

pub loop-k-preserved : goal.loop-k-preserved
loop-k-preserved g c =
    let layer = c.args.row.layer in
    let least = layer.of_grid.least in
    let more : 32 * c.loop-k.k < layer.size.n - 1 = omega arith in
    let done = rw (c.word.ensures.0, c.word.ensures.1) at c.word_cells-reached.ensures.result_after in
    record {
      reached = reached-word _ _ _ layer.size.n c.loop-k.k _ _ more c.loop-k.invariant.reached done c.word_cells-reached.ensures.written_bound c.word_cells-reached.result.ordered;
      work-same = search rules;
      vertices-same = search rules;
      indices-same = search rules;
    }

pub returns-clause-result_after : goal.returns-clause-result_after
unfolding cells_of_row
returns-clause-result_after g c =
    let enough = c.words_of-k-end.ensures.0 in
    reached-row _ _ _ c.args.row.layer.size.n c.loop-k.k _ (omega arith) c.loop-k.invariant.reached
