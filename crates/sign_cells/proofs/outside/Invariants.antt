-- `outside`: as long as the or of the words is 0, each of them is.
use mathlib.Core.Path.{◌≡◌}
use Rattle.sign_cells.proofs.OutsideRows.{ZeroWords}
use Rattle.sign_cells.proofs.outside.Given as goal

abbrev pub invariant-loop-i : goal.invariant-loop-i
invariant-loop-i l = l.some ≡ 0 → ZeroWords l.layers.low.now l.layers.high.now l.y l.i
