-- `put`: the room is tried before anything is written; then the header, the vertices and the indices, one after another.
use Rattle.std.proofs.Common.{◌≡◌, ℕ, ◌+◌, ◌-◌, ◌*◌, ◌/◌, List, [], ◌∷◌, length, take, drop, map, ap, ◌∙◌, arith}
use Rattle.std.proofs.Math.ListN.{length-map}
use Rattle.std.proofs.Math.Seq.{length-sets}
use Rattle.std.proofs.lemmas.List.{map-id}
use Rattle.std.proofs.lemmas.List.Edits.{sets}
use Rattle.std.specs.Float.{binary32}
use Rattle.std.specs.Float.Ieee.{to_bits}
use borrow.Rule.Slice.PartMut.{put_mid}
use Rattle.little_endian.specs.Words.{bytes_of, over}
use Rattle.words_write.proofs.Parts.{put_front, put_part}
use Rattle.mesh_write.proofs.Puts.{put-short, put-done}
use Rattle.mesh_write.proofs.LentMesh.put.Goals as goal

pub returns-then-out-end : goal.returns-then-out-end
returns-then-out-end c =
    put-short c.args.self.now.size c.args.self.now.numbering c.args.self.now.coordinates.now c.args.self.now.indices.now c.args.out.now
    c.short.result c.short.ensures (omega arith)

pub returns : goal.returns
returns c =
    let out = c.args.out.now in
    let coordinates = c.args.self.now.coordinates.now in
    let indices = c.args.self.now.indices.now in
    let first = c.put_words.new.bytes in
    let second = put_mid 28 (length first - 28) first c.put_words-2.new.bytes in
    let indices_at = 28 + 4 * length coordinates in
    let third = put_mid indices_at (length second - indices_at) second c.put_words-3.new.bytes in
    let same : length first ≡ length out = c.put_words.auto.bytes in
    let bits = map (to_bits binary32) coordinates in
    let two : second ≡ sets first 28 (bytes_of bits) =
    put_part first c.put_words-2.new.bytes bits 28 (omega (arith, same, length-map coordinates (to_bits binary32))) c.put_words-2.ensures in
    let long : length second ≡ length first = ap length two ∙ length-sets first 28 (bytes_of bits) in
    let three : third ≡ sets second indices_at (bytes_of indices) =
    put_part second c.put_words-3.new.bytes indices indices_at (omega (arith, long, same))
    (c.put_words-3.ensures ∙ ap (λ (l : List ℕ). over (bytes_of l) (take (length second - indices_at) (drop indices_at second))) (map-id indices)) in
    let vertices = length coordinates / 3 in
    let header = 1 ∷ c.args.self.now.size ∷ c.args.self.now.numbering ∷ vertices ∷ 28 ∷ length indices ∷ (28 + 12 * vertices) ∷ [] in
    put-done c.args.self.now.size c.args.self.now.numbering coordinates indices out
    first second third c.done.result (omega arith) (put_front out first header (omega arith) c.put_words.ensures) two three c.done.ensures
