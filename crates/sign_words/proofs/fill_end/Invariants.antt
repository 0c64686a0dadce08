-- `fill_end`: the words from the first that is not whole up to word k are there.
use Prim.Native.Nat.{◌/◌}
use lib.ListN.{length}
use Rattle.sign_words.specs.Words.{WordsFilled}
use Rattle.sign_words.proofs.fill_end.Given as goal

abbrev pub invariant-loop-k : goal.invariant-loop-k
invariant-loop-k l = WordsFilled l.row l.y (length l.row / 32) l.k l.initial.words l.words
