-- `long_word`: two words of 32 bits, one above the other.
use native.Mathlib.Omega.{arith}
use borrow.Author.Rules.{rules}
use Rattle.sign_cells.proofs.LongWords.{long_word-signs}
use Rattle.sign_cells.proofs.long_word.Goals as goal

pub returns : goal.returns
returns c = long_word-signs c.args.words.now c.args.y c.args.k _ _ (omega arith) (search rules) (search rules) c.from.ensures c.from-2.ensures
