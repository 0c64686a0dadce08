-- What lines are of a slice that is longer, and how long the lines of vertices are.
use mathlib.Core.Path.{◌≡◌, refl}
use mathlib.Core.List.{List, ◌++◌}
use Prim.Native.Nat.{ℕ, zero, suc, ◌+◌, ◌*◌, ◌≤◌, ◌<◌}
use native.Mathlib.Nat.{lt-suc_self, lt_trans}
use native.Mathlib.Omega.{arith}
use lib.ListN.{length, get_or, length-append, get_or-append}
use lib.Ieee.{Float, nan, binary32, to_bits}
use Rattle.listing_words.specs.Digits.{number_word, float_word}
use Rattle.listing_words.proofs.Digits.{digits-length}
use Rattle.listing_runs.specs.Runs.{line_at, lines_of, vertex_line, vertex_line_at, face_line_at}

lines_of-same : (count : ℕ) (f g : ℕ → List ℕ) → ((i : ℕ) → i < count → f i ≡ g i) → lines_of count f ≡ lines_of count g
lines_of-same zero f g h = refl
lines_of-same (suc count) f g h =
    let before = lines_of-same count f g (λ i l. h i (lt_trans l (lt-suc_self count))) in
    rw (before, h count (lt-suc_self count)) refl

-- the first lines read nothing past their words
pub lines-front : {W : Type 0} (letter : ℕ) (word : W → List ℕ) (missing : W) (words rest : List W) (count : ℕ) → 3 * count ≤ length words
    → lines_of count (line_at letter word missing (words ++ rest)) ≡ lines_of count (line_at letter word missing words)
lines-front letter word missing words rest count h =
    lines_of-same count (line_at letter word missing (words ++ rest)) (line_at letter word missing words) (λ i l.
    rw (
      get_or-append words rest missing (3 * i) (omega arith),
      get_or-append words rest missing (3 * i + 1) (omega arith),
      get_or-append words rest missing (3 * i + 2) (omega arith),
    ) refl)

pub vertex_lines-front : (floats rest : List Float) (count : ℕ) → 3 * count ≤ length floats
    → lines_of count (vertex_line_at (floats ++ rest)) ≡ lines_of count (vertex_line_at floats)
vertex_lines-front floats rest count h = lines-front 118 float_word nan floats rest count h

pub face_lines-front : (indices rest : List ℕ) (count : ℕ) → 3 * count ≤ length indices
    → lines_of count (face_line_at (indices ++ rest)) ≡ lines_of count (face_line_at indices)
face_lines-front indices rest count h = lines-front 102 number_word 0 indices rest count h

float_word-length : (x : Float) → length (float_word x) ≡ 9
unfolding float_word
float_word-length x = omega (arith, digits-length 16 8 (to_bits binary32 x))

vertex_line-length : (x y z : Float) → length (vertex_line x y z) ≡ 29
vertex_line-length x y z =
    simp length-append (omega (arith, float_word-length x, float_word-length y, float_word-length z))

-- the line of a vertex takes 29 bytes
pub vertex_lines-length : (floats : List Float) (count : ℕ) → length (lines_of count (vertex_line_at floats)) ≡ 29 * count
vertex_lines-length floats zero = refl
vertex_lines-length floats (suc count) =
    let last = vertex_line-length (get_or floats (3 * count) nan) (get_or floats (3 * count + 1) nan) (get_or floats (3 * count + 2) nan) in
    omega (arith, length-append (lines_of count (vertex_line_at floats)) (vertex_line_at floats count), vertex_lines-length floats count, last)
