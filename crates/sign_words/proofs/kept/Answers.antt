-- `kept`: every bit, or every bit but one.
use borrow.Author.Rules.{rules}
use Rattle.sign_words.proofs.KeptBits.{kept-all, kept_but}
use Rattle.sign_words.proofs.kept.Goals as goal

pub returns-then-inside : goal.returns-then-inside
returns-then-inside c = kept-all c.args.inside c.args.i (search rules)

pub returns-else-inside : goal.returns-else-inside
returns-else-inside c = kept_but c.args.inside c.args.i (search rules) (search rules)
