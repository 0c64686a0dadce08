-- The mesh that a record holds, and the first refusal of a record: document 02, CR 1.
use Rattle.std.specs.Prelude.{cond, not, List, ℕ, ◌+◌, ◌*◌, ltb, length}
use Rattle.little_endian.specs.Words.{word_at, words_from}
use Rattle.std.specs.Result.{result_and}
use Rattle.mesh_record.specs.Mesh.{Mesh}
use Rattle.mesh_record.specs.Refusals.{Checked, malformed, none, differ, in_threes, opening, contents}

-- the mesh that the words of a header point to
unfoldable pub mesh_in : List ℕ → Mesh
mesh_in bytes =
    let vertices = word_at bytes 12 in
    record {
      size = word_at bytes 4;
      numbering = word_at bytes 8;
      coordinates = words_from bytes 28 (3 * vertices);
      indices = words_from bytes (28 + 12 * vertices) (word_at bytes 20);
    }

-- the other fields of a header, the lowest first, and the length
unfoldable pub fields_in : List ℕ → Checked
fields_in bytes =
    let vertices = word_at bytes 12 in
    let indices = word_at bytes 20 in
    cond (differ (word_at bytes 16) 28) (malformed 16)
    (cond (not (in_threes indices)) (malformed 20)
    (cond (differ (word_at bytes 24) (28 + 12 * vertices)) (malformed 24)
    (cond (differ (length bytes) (28 + 12 * vertices + 4 * indices)) (malformed 24) none)))

-- the first refusal of a record, or none
unfoldable pub refusal_in : List ℕ → Checked
refusal_in bytes =
    cond (ltb (length bytes) 28) (malformed (length bytes))
    (result_and (opening (word_at bytes 0) (word_at bytes 4) (word_at bytes 8)) (result_and (fields_in bytes) (contents 28 (mesh_in bytes))))
