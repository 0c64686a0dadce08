-- `outside`: as long as the or of the words is 0, each of them is.
use mathlib.Core.Path.{◌≡◌}
use native.Mathlib.Omega.{arith}
use borrow.Author.Tests.{eqb-true}
use Rattle.sign_cells.proofs.OutsideRows.{zero_words-suc, row-outside}
use Rattle.sign_cells.proofs.outside.Goals as goal

pub loop-i-preserved : goal.loop-i-preserved
loop-i-preserved c =
    let layers = c.args.layers in
    zero_words-suc layers.low.now layers.high.now c.args.y c.loop-i.i c.loop-i.some c.loop-i.invariant

pub returns : goal.returns
returns c e =
    let layers = c.args.layers in
    let all : c.loop-i.i ≡ 8 = omega arith in
    row-outside layers.low.now layers.high.now c.args.y (rw all at (c.loop-i.invariant (eqb-true _ 0 e)))
