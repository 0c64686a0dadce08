-- `copy_words`: after i turns the front of the buffer has the first i words, and the rest is as it was.
use Rattle.std.proofs.Common.{◌≡◌, map, length}
use Rattle.little_endian.specs.Words.{words_from}
use Rattle.words_read.proofs.Turns.{copied_to}
use Rattle.words_read.proofs.copy_words.Given as goal

abbrev pub invariant-loop-i : goal.invariant-loop-i
invariant-loop-i g l = l.buffer ≡ copied_to (map g.W.Word.from_word (words_from l.bytes 0 (length l.initial.buffer))) l.initial.buffer l.i
