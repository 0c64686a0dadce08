-- What the reader of mesh records answers and leaves in the memory lent to it: document 02, CR 1.
use Rattle.std.specs.Prelude.{cond, ◌||◌, List, map, ℕ, ltb, length, Ok, Err, Float}
use Rattle.std.specs.Float.{binary32}
use Rattle.std.specs.Float.Ieee.{of_bits}
use Rattle.little_endian.specs.Words.{over}
use Rattle.refusals.specs.declared.Refusal.{Refusal}
use Rattle.refusals.specs.Causes.{cause_of, place_of}
use Rattle.mesh_record.specs.Mesh.{Mesh, vertex_count}
use Rattle.mesh_record.specs.Refusals.{Checked}
use Rattle.mesh_checks.specs.Reading.{mesh_in, refusal_in}
use Rattle.mesh_read.specs.declared.ReadAnswer.{ReadAnswer}

-- everything that the call leaves
pub record Read : Type 0 where
  pub answer : ReadAnswer
  pub coordinates : List Float
  pub indices : List ℕ

abbrev pub left : ReadAnswer → List Float → List ℕ → Read
left answer coordinates indices = record { answer = answer; coordinates = coordinates; indices = indices }

abbrev pub refused : Refusal → ReadAnswer
refused refusal = record { cause = cause_of refusal; size = 0; numbering = 0; place = place_of refusal; vertices = 0; indices = 0 }

-- cause 10, with the room needed
abbrev pub short : Mesh → ReadAnswer
short m = record { cause = 10; size = 0; numbering = 0; place = 0; vertices = vertex_count m; indices = length m.indices }

abbrev pub done : Mesh → ReadAnswer
done m = record { cause = 0; size = m.size; numbering = m.numbering; place = 0; vertices = vertex_count m; indices = length m.indices }

-- a mesh into the front of both buffers, where both have the room
unfoldable pub copied : Mesh → List Float → List ℕ → Read
copied m coordinates indices =
    cond (ltb (length coordinates) (length m.coordinates) || ltb (length indices) (length m.indices)) (left (short m) coordinates indices)
    (left (done m) (over (map (of_bits binary32) m.coordinates) coordinates) (over m.indices indices))

-- what is left, by the first refusal: a refusal changes nothing
abbrev pub copied_unless : Checked → Mesh → List Float → List ℕ → Read
copied_unless (Ok _) m coordinates indices = copied m coordinates indices
copied_unless (Err refusal) m coordinates indices = left (refused refusal) coordinates indices

unfoldable pub reading : List ℕ → List Float → List ℕ → Read
reading bytes coordinates indices = copied_unless (refusal_in bytes) (mesh_in bytes) coordinates indices
