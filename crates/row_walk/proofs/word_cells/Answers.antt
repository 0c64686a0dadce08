-- `word_cells`: the cells before the lowest bit left are done or idle; that bit is the next cell.
use mathlib.Core.Path.{◌≡◌, refl, ap}
use Prim.Native.Nat.{◌<◌}
use native.Mathlib.Omega.{arith}
use borrow.Author.Rules.{rules}
use Rattle.sign_cells.proofs.LowestBits.{onward-first}
use Rattle.row_walk.proofs.WordLoop.{walked-found, walked_next, walked-last}
use Rattle.row_walk.proofs.word_cells.Goals as goal

pub loop-rest-init : goal.loop-rest-init
loop-rest-init g c = record {
  walked = onward-first _ _ _ _ _ c.args.counts.ordered;
  work-same = refl;
  vertices-same = refl;
  indices-same = refl;
}

pub cell-here-requires : goal.cell-here-requires
cell-here-requires g c =
    let word = c.args.word in
    let some : 0 < c.loop-rest.rest = omega arith in
    (walked-found g.S.CellStep.step word.row.layer.size.n word.row.layer.samples.now word.row.layer.z word.row.y g.met.S.CellStep.idle word.k _ _ _ _ c.loop-rest.invariant.walked (c.active-mask.ensures _ _ _ word.quad_of) some).0

pub loop-rest-preserved : goal.loop-rest-preserved
loop-rest-preserved g c =
    let word = c.args.word in
    let some : 0 < c.loop-rest.rest = omega arith in
    let done = rw (c.cell-here.ensures.0, c.cell-here.ensures.1) at c.cell-next.ensures.result_after in
    record {
      walked = walked_next g.S.CellStep.step word.row.layer.size.n word.row.layer.samples.now word.row.layer.z word.row.y g.met.S.CellStep.idle word.k _ _ _ _ c.loop-rest.invariant.walked (c.active-mask.ensures _ _ _ word.quad_of) _ some done c.cell-next.ensures.written_bound c.cell-next.result.ordered;
      work-same = search rules;
      vertices-same = search rules;
      indices-same = search rules;
    }

pub returns-clause-result_after : goal.returns-clause-result_after
returns-clause-result_after g c =
    let word = c.args.word in
    walked-last g.S.CellStep.step word.row.layer.size.n word.row.layer.samples.now word.row.layer.z word.row.y g.met.S.CellStep.idle word.k _ _ _ _ c.loop-rest.invariant.walked (c.active-mask.ensures _ _ _ word.quad_of) (omega arith)
