-- `copy_words`: after i turns the front of the buffer has the first i words, and the rest is as it was.
use Rattle.std.proofs.Common.{◌≡◌, ◌<◌, map, length, arith}
use Rattle.little_endian.specs.Words.{words_from}
use Rattle.words_read.proofs.Turns.{copied_to-end, copied_next, copied-length, copied-at}
use Rattle.words_read.proofs.copy_words.Goals as goal

pub loop-i-preserved : goal.loop-i-preserved
loop-i-preserved g c =
    let bytes = c.args.bytes.now in
    let buffer = c.args.buffer.now in
    let f = g.W.Word.from_word in
    let l = map f (words_from bytes 0 (length buffer)) in
    let i = c.loop-i.i in
    let value = c.from_word.result in
    let within : i < length l = omega (arith, c.loop-i-test.true, copied-length f bytes (length buffer) c.requires) in
    copied_next l buffer c.loop-i.buffer i value value within c.loop-i-test.true c.loop-i.invariant
    (copied-at f bytes (length buffer) c.requires i c.word_at.result value c.loop-i-test.true c.word_at.ensures c.from_word.ensures)

pub returns : goal.returns
returns g c =
    let bytes = c.args.bytes.now in
    let buffer = c.args.buffer.now in
    let f = g.W.Word.from_word in
    let l = map f (words_from bytes 0 (length buffer)) in
    let i = c.loop-i.i in
    let all : i ≡ length l = omega (arith, copied-length f bytes (length buffer) c.requires) in
    copied_to-end l buffer c.loop-i.buffer i c.loop-i.invariant all c.loop-i-test.false
