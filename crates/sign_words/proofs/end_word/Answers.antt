-- `end_word`: a part word at the row's end, or nothing past it.
use mathlib.Core.Path.{◌∙◌}
use native.Mathlib.Omega.{arith}
use Rattle.sign_words.proofs.RowWords.{word_from-part, word_from-past}
use Rattle.sign_words.proofs.end_word.Goals as goal

pub returns-then-first-row : goal.returns-then-first-row
returns-then-first-row c = c.part_word.ensures ∙ word_from-part c.args.row.now c.args.k (omega arith) (omega arith)

pub returns-else-first-row : goal.returns-else-first-row
returns-else-first-row c = word_from-past c.args.row.now c.args.k (omega arith)
