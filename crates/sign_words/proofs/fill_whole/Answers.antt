-- `fill_whole`: after k turns the first k words of the row are there.
use mathlib.Core.Path.{◌∙◌}
use native.Mathlib.Omega.{arith}
use borrow.Author.Rules.{rules}
use Rattle.sign_words.proofs.RowWords.{row-suc, word_from-whole}
use Rattle.sign_words.proofs.fill_whole.Goals as goal

pub loop-k-preserved : goal.loop-k-preserved
loop-k-preserved c =
    let row = c.args.row.now in
    row-suc row c.args.y 0 c.loop-k.k _ _ _ (omega arith) (omega arith) (omega arith) (search rules) c.loop-k.invariant
    (c.whole_word.ensures ∙ word_from-whole row c.loop-k.k (omega arith))
