-- `clear_held`: after x turns the first x places are cleared.
use mathlib.Core.Path.{◌≡◌}
use Rattle.held_bits.specs.HeldCell.{clear_held}
use Rattle.held_bits.proofs.clear_held.Given as goal

abbrev pub invariant-loop-x : goal.invariant-loop-x
invariant-loop-x l = l.work ≡ clear_held l.n l.row l.x l.initial.work
