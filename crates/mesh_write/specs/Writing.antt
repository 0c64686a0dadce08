-- What the writer of mesh records answers and leaves in the memory lent to it: document 02, CR 1. It makes the reader's checks, with the places of
-- the record to be.
use Rattle.std.specs.Prelude.{◌≡◌, Bool, cond, not, ◌||◌, List, map, ℕ, ◌+◌, ◌*◌, ◌/◌, ◌%◌, ◌≤◌, ltb, length, Ok, Err, Float}
use Rattle.std.specs.Float.{binary32}
use Rattle.std.specs.Float.Ieee.{to_bits}
use Rattle.std.specs.Result.{result_and}
use Rattle.little_endian.specs.Words.{over}
use Rattle.refusals.specs.declared.Refusal.{Refusal}
use Rattle.refusals.specs.Causes.{cause_of, place_of}
use Rattle.mesh_record.specs.Mesh.{Mesh, record_bytes}
use Rattle.mesh_record.specs.Refusals.{Checked, malformed, none, in_threes, opening, contents}
use Rattle.mesh_write.specs.declared.LentMesh.{LentMesh}
use Rattle.mesh_write.specs.declared.WriteAnswer.{WriteAnswer}

-- the mesh of lent floats and words
abbrev pub mesh_of : ℕ → ℕ → List Float → List ℕ → Mesh
mesh_of size numbering coordinates indices =
    record { size = size; numbering = numbering; coordinates = map (to_bits binary32) coordinates; indices = indices }

-- the mesh that a caller lends
abbrev pub mesh_lent : LentMesh → Mesh
mesh_lent lent = mesh_of lent.size lent.numbering lent.coordinates.now lent.indices.now

-- a count or a place that a word cannot hold
abbrev pub too_large : ℕ → Bool
too_large n = ltb 4294967295 n

-- the other fields of the header to be, the lowest first: the counts, by how many coordinates and indices are lent, and where the indices start
unfoldable pub fields_of : ℕ → ℕ → Checked
fields_of coordinates indices =
    let vertices = coordinates / 3 in
    cond (not (in_threes coordinates) || too_large vertices) (malformed 12)
    (cond (not (in_threes indices) || too_large indices) (malformed 20)
    (cond (too_large (28 + 12 * vertices)) (malformed 24) none))

-- no field is refused: what a private function asks for
pub record Fits (coordinates indices : ℕ) : Type 0 where
  pub coordinates-whole : coordinates ≡ 3 * (coordinates / 3)
  pub indices-whole : indices % 3 ≡ 0
  pub indices-word : indices ≤ 4294967295
  pub offset_word : 28 + 12 * (coordinates / 3) ≤ 4294967295

-- the first refusal of a mesh, or none
unfoldable pub refusal_of : ℕ → Mesh → Checked
refusal_of version m =
    result_and (opening version m.size m.numbering) (result_and (fields_of (length m.coordinates) (length m.indices)) (contents 28 m))

-- everything that the call leaves
pub record Written : Type 0 where
  pub answer : WriteAnswer
  pub out : List ℕ

abbrev pub left : WriteAnswer → List ℕ → Written
left answer out = record { answer = answer; out = out }

abbrev pub answered : ℕ → ℕ → ℕ → WriteAnswer
answered cause place bytes = record { cause = cause; place = place; bytes = bytes }

abbrev pub refused : Refusal → WriteAnswer
refused refusal = answered (cause_of refusal) (place_of refusal) 0

-- cause 10, with the room needed
abbrev pub short : ℕ → WriteAnswer
short bytes = answered 10 0 bytes

abbrev pub done : ℕ → WriteAnswer
done bytes = answered 0 0 bytes

-- the record at the front of the output, where that has the room
unfoldable pub put : Mesh → List ℕ → Written
put m out =
    let bytes = record_bytes m in
    cond (ltb (length out) (length bytes)) (left (short (length bytes)) out) (left (done (length bytes)) (over bytes out))

-- what is left, by the first refusal: a refusal changes nothing
abbrev pub put_unless : Checked → Mesh → List ℕ → Written
put_unless (Ok _) m out = put m out
put_unless (Err refusal) m out = left (refused refusal) out

unfoldable pub writing : ℕ → Mesh → List ℕ → Written
writing version m out = put_unless (refusal_of version m) m out
