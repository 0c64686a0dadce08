-- `copy_mesh`: both rooms are tried before anything is written; then one copy each.
use Rattle.std.proofs.Common.{ℕ, ◌+◌, ◌*◌, List, ap, ◌∙◌, arith}
use Rattle.std.proofs.lemmas.List.{map-id}
use Rattle.std.specs.Float.{binary32}
use Rattle.std.specs.Float.Ieee.{of_bits}
use Rattle.little_endian.specs.Words.{words_from, over}
use Rattle.words_read.proofs.Parts.{copied_front}
use Rattle.mesh_read.proofs.Copies.{little-room, enough-room}
use Rattle.mesh_read.proofs.copy_mesh.Goals as goal

pub returns-then-coordinates-vertices : goal.returns-then-coordinates-vertices
returns-then-coordinates-vertices c =
    little-room c.args.bytes.now c.args.coordinates.now c.args.indices.now c.requires
    c.word_at-vertices.result c.word_at-count.result c.word_at-vertices.ensures c.word_at-count.ensures
    c.short.result c.short.ensures c.then-coordinates-vertices.either

pub returns : goal.returns
returns c =
    let bytes = c.args.bytes.now in
    let coordinates = c.args.coordinates.now in
    let indices = c.args.indices.now in
    let vertices = c.word_at-vertices.result in
    let count = c.word_at-count.result in
    let f = of_bits binary32 in
    let first = copied_front f bytes coordinates c.copy_words.new.buffer 28 (3 * vertices) (omega arith) (omega arith) c.copy_words.ensures in
    let second = copied_front (λ (word : ℕ). word) bytes indices c.copy_words-2.new.buffer (28 + 12 * vertices) count (omega arith) (omega arith) c.copy_words-2.ensures
    ∙ ap (λ (l : List ℕ). over l indices) (map-id (words_from bytes (28 + 12 * vertices) count)) in
    enough-room bytes coordinates indices c.requires vertices count c.word_at-vertices.ensures c.word_at-count.ensures
    c.word_at.result c.word_at-2.result _ _ c.word_at.ensures c.word_at-2.ensures first second (omega arith) (omega arith)
