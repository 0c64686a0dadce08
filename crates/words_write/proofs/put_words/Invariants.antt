-- `put_words`: after i turns the bytes of the first i words are put.
use Rattle.std.proofs.Common.{◌≡◌, map}
use Rattle.words_write.proofs.Turns.{put_to}
use Rattle.words_write.proofs.put_words.Given as goal

abbrev pub invariant-loop-i : goal.invariant-loop-i
invariant-loop-i g l = l.bytes ≡ put_to l.initial.bytes (map g.W.Word.to_word l.list) l.i
