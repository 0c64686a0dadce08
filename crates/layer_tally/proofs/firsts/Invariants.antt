-- `firsts`: after y turns the first cells of y rows are set.
use mathlib.Core.Path.{◌≡◌}
use lib.ListN.{length}
use Rattle.layer_tally.proofs.MaskBits.{FirstsMade}
use Rattle.layer_tally.proofs.firsts.Given as goal

abbrev pub invariant-loop-y : goal.invariant-loop-y
invariant-loop-y l = (length l.all ≡ 513) × FirstsMade l.y l.all
