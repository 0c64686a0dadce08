-- The lines of document 01's listing that stand alone, in ASCII, and the whole listing of a mesh. Held to W4's listing by `proofs/Cases.antt`.
use Rattle.std.specs.Prelude.{cond, List, [], ◌∷◌, ◌++◌, ℕ, ◌/◌, eqb, length, Float}
use Rattle.listing_words.specs.Digits.{number_word}
use Rattle.listing_runs.specs.Runs.{newline, lines_of, vertex_line_at, face_line_at}

-- "refused", the cause, " at", the place
abbrev pub refused_line : ℕ → ℕ → List ℕ
refused_line cause place =
    (114 ∷ 101 ∷ 102 ∷ 117 ∷ 115 ∷ 101 ∷ 100 ∷ []) ++ number_word cause ++ (32 ∷ 97 ∷ 116 ∷ []) ++ number_word place ++ newline

-- " numbering crate", " numbering joined"
abbrev pub numbering_words : ℕ → List ℕ
numbering_words numbering =
    cond (eqb numbering 0)
    (32 ∷ 110 ∷ 117 ∷ 109 ∷ 98 ∷ 101 ∷ 114 ∷ 105 ∷ 110 ∷ 103 ∷ 32 ∷ 99 ∷ 114 ∷ 97 ∷ 116 ∷ 101 ∷ [])
    (32 ∷ 110 ∷ 117 ∷ 109 ∷ 98 ∷ 101 ∷ 114 ∷ 105 ∷ 110 ∷ 103 ∷ 32 ∷ 106 ∷ 111 ∷ 105 ∷ 110 ∷ 101 ∷ 100 ∷ [])

-- "size", the size, the numbering
abbrev pub size_words : ℕ → ℕ → List ℕ
size_words size numbering = (115 ∷ 105 ∷ 122 ∷ 101 ∷ []) ++ number_word size ++ numbering_words numbering

-- " vertices", how many, " indices", how many
abbrev pub count_words : ℕ → ℕ → List ℕ
count_words vertices indices =
    (32 ∷ 118 ∷ 101 ∷ 114 ∷ 116 ∷ 105 ∷ 99 ∷ 101 ∷ 115 ∷ []) ++ number_word vertices
    ++ (32 ∷ 105 ∷ 110 ∷ 100 ∷ 105 ∷ 99 ∷ 101 ∷ 115 ∷ []) ++ number_word indices ++ newline

abbrev pub first_line : ℕ → ℕ → ℕ → ℕ → List ℕ
first_line size numbering vertices indices = size_words size numbering ++ count_words vertices indices

-- the listing of a mesh: its first line, its vertices and its triangles
abbrev pub mesh_text : ℕ → ℕ → List Float → List ℕ → List ℕ
mesh_text size numbering floats indices =
    first_line size numbering (length floats / 3) (length indices)
    ++ lines_of (length floats / 3) (vertex_line_at floats) ++ lines_of (length indices / 3) (face_line_at indices)
