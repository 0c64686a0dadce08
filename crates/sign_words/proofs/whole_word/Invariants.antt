-- `whole_word`: after i turns the first i bits are the signs of their samples, and the others are still set.
use mathlib.Core.Bool.{Bool}
use mathlib.Core.List.{List}
use mathlib.Core.Path.{◌≡◌}
use Prim.Native.Nat.{ℕ}
use lib.ListN.{get_or}
use lib.Ieee.{Float, nan}
use Rattle.marching_cubes_impl.specs.Sample.{inside}
use Rattle.sign_words.specs.Words.{word_of}
use Rattle.sign_words.proofs.KeptBits.{still}
use Rattle.sign_words.proofs.whole_word.Given as goal

abbrev pub sign : List Float → ℕ → Bool
sign samples i = inside (get_or samples i nan)

abbrev pub invariant-loop-i : goal.invariant-loop-i
invariant-loop-i l = l.word ≡ word_of (still (sign l.samples) l.i) 32
