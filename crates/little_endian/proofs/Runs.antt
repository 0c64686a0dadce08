-- Runs of words out of bytes: how many there are, and what each is. The records and the runs that are copied cite these.
use mathlib.Core.Path.{◌≡◌, ◌∙◌}
use mathlib.Core.List.{List}
use Prim.Native.Nat.{ℕ, ◌+◌, ◌*◌, ◌≤◌, ◌<◌}
use native.Mathlib.Omega.{arith}
use lib.ListN.{length, get_or, drop, length-take, length-drop}
use lib.Seq.{get_or-take}
use Rattle.little_endian.specs.Words.{word_at, words, words_from}
use Rattle.little_endian.proofs.Words.{words-length, words-from}

module _ (bytes : List ℕ) (at count : ℕ) (within : at + 4 * count ≤ length bytes) where
  words-enough : count ≤ length (words (drop at bytes))
  words-enough = omega (arith, words-length (drop at bytes), length-drop at bytes)

  pub words_from-length : length (words_from bytes at count) ≡ count
  words_from-length = let h = words-enough in omega (arith, length-take count (words (drop at bytes)))

  pub words_from-at : (i : ℕ) → i < count → get_or (words_from bytes at count) i 0 ≡ word_at bytes (at + 4 * i)
  words_from-at i h = let all = words-enough in get_or-take count (words (drop at bytes)) i 0 h ∙ words-from bytes at i (omega arith)
