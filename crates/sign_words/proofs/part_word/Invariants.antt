-- `part_word`: as `whole_word`, up to the count.
use mathlib.Core.Path.{◌≡◌}
use Rattle.sign_words.specs.Words.{sign_word}
use Rattle.sign_words.proofs.part_word.Given as goal

abbrev pub invariant-loop-i : goal.invariant-loop-i
invariant-loop-i l = l.word ≡ sign_word l.samples l.i
