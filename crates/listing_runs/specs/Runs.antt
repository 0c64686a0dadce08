-- The lines of vertices and of triangles in document 01's listing, in ASCII, each ended by a newline, and runs of them. Held to W4's listing by
-- `listing_text`, in its `proofs/Cases.antt`.
use Rattle.std.specs.Prelude.{List, [], ◌∷◌, ◌++◌, ℕ, zero, suc, ◌+◌, ◌*◌, get_or, Float}
use Rattle.std.specs.Float.{nan}
use Rattle.listing_words.specs.Digits.{number_word, float_word}

abbrev pub newline : List ℕ
newline = 10 ∷ []

-- a letter, three words
abbrev pub line : {W : Type 0} → ℕ → (W → List ℕ) → W → W → W → List ℕ
line letter word a b c = (letter ∷ []) ++ word a ++ word b ++ word c ++ newline

-- "v", three floats
abbrev pub vertex_line : Float → Float → Float → List ℕ
vertex_line x y z = line 118 float_word x y z

-- "f", three numbers
abbrev pub face_line : ℕ → ℕ → ℕ → List ℕ
face_line a b c = line 102 number_word a b c

-- the lines of 0, 1, .. below the count
abbrev pub lines_of : ℕ → (ℕ → List ℕ) → List ℕ
lines_of zero line = []
lines_of (suc i) line = lines_of i line ++ line i

-- line i has the words 3i, 3i + 1 and 3i + 2
abbrev pub line_at : {W : Type 0} → ℕ → (W → List ℕ) → W → List W → ℕ → List ℕ
line_at letter word missing words i =
    line letter word (get_or words (3 * i) missing) (get_or words (3 * i + 1) missing) (get_or words (3 * i + 2) missing)

abbrev pub vertex_line_at : List Float → ℕ → List ℕ
vertex_line_at floats i = vertex_line (get_or floats (3 * i) nan) (get_or floats (3 * i + 1) nan) (get_or floats (3 * i + 2) nan)

abbrev pub face_line_at : List ℕ → ℕ → List ℕ
face_line_at indices i = face_line (get_or indices (3 * i) 0) (get_or indices (3 * i + 1) 0) (get_or indices (3 * i + 2) 0)
