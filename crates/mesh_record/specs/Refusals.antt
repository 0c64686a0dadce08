-- The refusals that the reader and the writer of mesh records share, in document 02's order: what opens a header, and the lowest bad vertex or index.
use Rattle.std.specs.Prelude.{Bool, cond, not, ◌||◌, List, ℕ, ◌+◌, ◌*◌, ◌%◌, ltb, eqb, length, Option, None, Some, Result, Ok, Err, position}
use Rattle.std.specs.Result.{result_and}
use Rattle.refusals.specs.declared.Refusal.{Refusal}
use Rattle.refusals.specs.declared.Refusal.TheVariants.{Size, Numbering, Malformed}
use Rattle.mesh_record.specs.Mesh.{Mesh, vertex_count, finite, below}

-- what a check answers: `Ok`, or why it refuses
abbrev pub Checked : Type 0
Checked = Result (Unit {0}) Refusal

-- nothing is refused
abbrev pub none : Checked
none = Ok tt

abbrev pub malformed : ℕ → Checked
malformed place = Err (Malformed place)

abbrev pub bad_size : Checked
bad_size = Err Size

abbrev pub bad_numbering : Checked
bad_numbering = Err Numbering

abbrev pub differ : ℕ → ℕ → Bool
differ a b = not (eqb a b)

abbrev pub in_threes : ℕ → Bool
in_threes count = eqb (count % 3) 0

-- the version, the size and the numbering
unfoldable pub opening : ℕ → ℕ → ℕ → Checked
opening version size numbering =
    cond (differ version 1) (malformed 0)
    (cond (ltb size 2 || ltb 128 size) bad_size
    (cond (ltb 1 numbering) bad_numbering none))

-- the lowest place whose number fails the test
unfoldable pub lowest_bad : (ℕ → Bool) → List ℕ → Option ℕ
lowest_bad test l = position (λ w. not (test w)) l

-- the refusal of a word by its number, among words from a byte place on
abbrev pub malformed_word : ℕ → Option ℕ → Checked
malformed_word start None = none
malformed_word start (Some i) = malformed (start + 4 * i)

-- the lowest bad coordinate, then the lowest bad index, by its byte place in a record whose vertices start at `start`
unfoldable pub contents : ℕ → Mesh → Checked
contents start m =
    result_and (malformed_word start (lowest_bad finite m.coordinates))
    (malformed_word (start + 4 * length m.coordinates) (lowest_bad (below (vertex_count m)) m.indices))
