-- `masks`: after i turns the first i words are made.
use mathlib.Core.Path.{◌≡◌}
use lib.ListN.{length}
use Rattle.layer_tally.proofs.MaskBits.{MasksMade}
use Rattle.layer_tally.proofs.masks.Given as goal

abbrev pub invariant-loop-i : goal.invariant-loop-i
invariant-loop-i l = (length l.all ≡ 513) × MasksMade l.n l.i l.all
