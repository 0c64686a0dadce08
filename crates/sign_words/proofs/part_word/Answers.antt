-- `part_word`: as `whole_word`, up to the count.
use mathlib.Core.Path.{refl}
use native.Mathlib.Omega.{arith}
use Rattle.sign_words.specs.Words.{word_of}
use Rattle.sign_words.proofs.RowWords.{sign-turn}
use Rattle.sign_words.proofs.part_word.Goals as goal

pub loop-i-init : goal.loop-i-init
unfolding word_of
loop-i-init c = refl

pub loop-i-preserved : goal.loop-i-preserved
loop-i-preserved c = sign-turn c.args.samples.now c.loop-i.i c.loop-i.word c.from.result _ (omega arith) c.loop-i.invariant c.from.ensures c.is_inside.ensures
