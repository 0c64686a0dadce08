-- `clear_held`: after x turns the first x places are cleared.
use mathlib.Core.Path.{refl}
use Rattle.walk.specs.Walk.{times}
use Rattle.held_bits.specs.HeldCell.{clear_held}
use Rattle.held_bits.proofs.CellSteps.{clear_held-suc}
use Rattle.held_bits.proofs.clear_held.Goals as goal

pub loop-x-init : goal.loop-x-init
unfolding clear_held times
loop-x-init c = refl

pub loop-x-preserved : goal.loop-x-preserved
loop-x-preserved c = clear_held-suc _ _ _ _ _ _ _ c.row_word.ensures.0 c.loop-x.invariant refl
