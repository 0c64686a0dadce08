-- `fill_layer`: after y turns the first y rows are there.
use Rattle.sign_words.proofs.RowWords.{RowsFilled}
use Rattle.sign_words.proofs.fill_layer.Given as goal

abbrev pub invariant-loop-y : goal.invariant-loop-y
invariant-loop-y l = RowsFilled l.size.n l.samples l.z l.y l.words
