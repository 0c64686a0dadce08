-- `put_words`: after i turns the bytes of the first i words are put.
use Rattle.std.proofs.Common.{◌≡◌, ◌<◌, ◌*◌, ◌≤◌, map, length, get_or, sym, ap, ◌∙◌, arith}
use Rattle.std.proofs.Math.ListN.{length-map}
use Rattle.std.proofs.lemmas.List.{get_or-map}
use Rattle.words_write.proofs.Turns.{put_to-end, put_next}
use Rattle.words_write.proofs.put_words.Goals as goal

pub loop-i-preserved : goal.loop-i-preserved
loop-i-preserved g c =
    let bytes = c.args.bytes.now in
    let list = c.args.list.now in
    let f = g.W.Word.to_word in
    let l = map f list in
    let i = c.loop-i.i in
    let word = c.index-list-i.result in
    let within : i < length l = omega (arith, c.loop-i-test.true, length-map list f) in
    let value : c.to_word.result ≡ get_or l i 0 = c.to_word.ensures ∙ ap f c.index-list-i.is ∙ sym (get_or-map f list i word 0 c.loop-i-test.true) in
    put_next bytes l c.loop-i.bytes i c.to_word.result _ within c.loop-i.invariant value c.put_word.ensures

pub returns : goal.returns
returns g c =
    let bytes = c.args.bytes.now in
    let list = c.args.list.now in
    let l = map g.W.Word.to_word list in
    let i = c.loop-i.i in
    let all : i ≡ length l = omega (arith, length-map list g.W.Word.to_word) in
    let room : 4 * length l ≤ length bytes = omega (arith, length-map list g.W.Word.to_word) in
    c.loop-i.invariant ∙ put_to-end bytes l i all room
