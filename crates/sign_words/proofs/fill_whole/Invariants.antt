-- `fill_whole`: after k turns the first k words of the row are there.
use Rattle.sign_words.specs.Words.{WordsFilled}
use Rattle.sign_words.proofs.fill_whole.Given as goal

abbrev pub invariant-loop-k : goal.invariant-loop-k
invariant-loop-k l = WordsFilled l.row l.y 0 l.k l.initial.words l.words
