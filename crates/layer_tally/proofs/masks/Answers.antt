-- `masks`: after i turns the first i words are made.
use mathlib.Core.Path.{◌∙◌}
use native.Mathlib.Omega.{arith}
use lib.ListN.{length-set}
use Rattle.layer_tally.proofs.MaskBits.{masks-turn}
use Rattle.layer_tally.proofs.masks.Goals as goal

pub loop-i-preserved : goal.loop-i-preserved
loop-i-preserved c =
    let all = c.loop-i.all in
    let i = c.loop-i.i in
    let new = c.mask_of.result in
    let made = c.loop-i.invariant in
    (length-set all i new ∙ made.0, masks-turn c.args.n i new all made.0 (omega arith) made.1 c.mask_of.ensures)
