-- The three tables of isosurface 0.0.4, `marching_cubes_tables.rs`, as lists of their rows. The code's constants are proved equal to them, and
-- the oracle compares them with the Rust's.
use Rattle.std.specs.Prelude.{List, [], ◌∷◌, ◌++◌, ℕ, ℤ, pos, negsuc, get_or}

-- the offsets of each corner of a cell
unfoldable pub corners : List (List ℕ)
corners =
    (0 ∷ 0 ∷ 0 ∷ []) ∷
    (1 ∷ 0 ∷ 0 ∷ []) ∷
    (1 ∷ 1 ∷ 0 ∷ []) ∷
    (0 ∷ 1 ∷ 0 ∷ []) ∷
    (0 ∷ 0 ∷ 1 ∷ []) ∷
    (1 ∷ 0 ∷ 1 ∷ []) ∷
    (1 ∷ 1 ∷ 1 ∷ []) ∷
    (0 ∷ 1 ∷ 1 ∷ []) ∷
    []

-- the two corners of each edge, in the order in which an edge runs
unfoldable pub edge_connection : List (List ℕ)
edge_connection =
    (0 ∷ 1 ∷ []) ∷
    (1 ∷ 2 ∷ []) ∷
    (2 ∷ 3 ∷ []) ∷
    (3 ∷ 0 ∷ []) ∷
    (4 ∷ 5 ∷ []) ∷
    (5 ∷ 6 ∷ []) ∷
    (6 ∷ 7 ∷ []) ∷
    (7 ∷ 4 ∷ []) ∷
    (0 ∷ 4 ∷ []) ∷
    (1 ∷ 5 ∷ []) ∷
    (2 ∷ 6 ∷ []) ∷
    (3 ∷ 7 ∷ []) ∷
    []

-- a row of 16 for each sign byte
unfoldable pub triangle_connection : List (List ℤ)
triangle_connection =
    (negsuc 0 ∷ negsuc 0 ∷ negsuc 0 ∷ negsuc 0 ∷ negsuc 0 ∷ negsuc 0 ∷ negsuc 0 ∷ negsuc 0 ∷ negsuc 0 ∷ negsuc 0 ∷ negsuc 0 ∷ negsuc 0 ∷ negsuc 0 ∷ negsuc 0 ∷ negsuc 0 ∷ negsuc 0 ∷ []) ∷
    (pos 0 ∷ pos 8 ∷ pos 3 ∷ negsuc 0 ∷ negsuc 0 ∷ negsuc 0 ∷ negsuc 0 ∷ negsuc 0 ∷ negsuc 0 ∷ negsuc 0 ∷ negsuc 0 ∷ negsuc 0 ∷ negsuc 0 ∷ negsuc 0 ∷ negsuc 0 ∷ negsuc 0 ∷ []) ∷
    (pos 0 ∷ pos 1 ∷ pos 9 ∷ negsuc 0 ∷ negsuc 0 ∷ negsuc 0 ∷ negsuc 0 ∷ negsuc 0 ∷ negsuc 0 ∷ negsuc 0 ∷ negsuc 0 ∷ negsuc 0 ∷ negsuc 0 ∷ negsuc 0 ∷ negsuc 0 ∷ negsuc 0 ∷ []) ∷
    (pos 1 ∷ pos 8 ∷ pos 3 ∷ pos 9 ∷ pos 8 ∷ pos 1 ∷ negsuc 0 ∷ negsuc 0 ∷ negsuc 0 ∷ negsuc 0 ∷ negsuc 0 ∷ negsuc 0 ∷ negsuc 0 ∷ negsuc 0 ∷ negsuc 0 ∷ negsuc 0 ∷ []) ∷
    (pos 1 ∷ pos 2 ∷ pos 10 ∷ negsuc 0 ∷ negsuc 0 ∷ negsuc 0 ∷ negsuc 0 ∷ negsuc 0 ∷ negsuc 0 ∷ negsuc 0 ∷ negsuc 0 ∷ negsuc 0 ∷ negsuc 0 ∷ negsuc 0 ∷ negsuc 0 ∷ negsuc 0 ∷ []) ∷
    (pos 0 ∷ pos 8 ∷ pos 3 ∷ pos 1 ∷ pos 2 ∷ pos 10 ∷ negsuc 0 ∷ negsuc 0 ∷ negsuc 0 ∷ negsuc 0 ∷ negsuc 0 ∷ negsuc 0 ∷ negsuc 0 ∷ negsuc 0 ∷ negsuc 0 ∷ negsuc 0 ∷ []) ∷
    (pos 9 ∷ pos 2 ∷ pos 10 ∷ pos 0 ∷ pos 2 ∷ pos 9 ∷ negsuc 0 ∷ negsuc 0 ∷ negsuc 0 ∷ negsuc 0 ∷ negsuc 0 ∷ negsuc 0 ∷ negsuc 0 ∷ negsuc 0 ∷ negsuc 0 ∷ negsuc 0 ∷ []) ∷
    (pos 2 ∷ pos 8 ∷ pos 3 ∷ pos 2 ∷ pos 10 ∷ pos 8 ∷ pos 10 ∷ pos 9 ∷ pos 8 ∷ negsuc 0 ∷ negsuc 0 ∷ negsuc 0 ∷ negsuc 0 ∷ negsuc 0 ∷ negsuc 0 ∷ negsuc 0 ∷ []) ∷
    (pos 3 ∷ pos 11 ∷ pos 2 ∷ negsuc 0 ∷ negsuc 0 ∷ negsuc 0 ∷ negsuc 0 ∷ negsuc 0 ∷ negsuc 0 ∷ negsuc 0 ∷ negsuc 0 ∷ negsuc 0 ∷ negsuc 0 ∷ negsuc 0 ∷ negsuc 0 ∷ negsuc 0 ∷ []) ∷
    (pos 0 ∷ pos 11 ∷ pos 2 ∷ pos 8 ∷ pos 11 ∷ pos 0 ∷ negsuc 0 ∷ negsuc 0 ∷ negsuc 0 ∷ negsuc 0 ∷ negsuc 0 ∷ negsuc 0 ∷ negsuc 0 ∷ negsuc 0 ∷ negsuc 0 ∷ negsuc 0 ∷ []) ∷
    (pos 1 ∷ pos 9 ∷ pos 0 ∷ pos 2 ∷ pos 3 ∷ pos 11 ∷ negsuc 0 ∷ negsuc 0 ∷ negsuc 0 ∷ negsuc 0 ∷ negsuc 0 ∷ negsuc 0 ∷ negsuc 0 ∷ negsuc 0 ∷ negsuc 0 ∷ negsuc 0 ∷ []) ∷
    (pos 1 ∷ pos 11 ∷ pos 2 ∷ pos 1 ∷ pos 9 ∷ pos 11 ∷ pos 9 ∷ pos 8 ∷ pos 11 ∷ negsuc 0 ∷ negsuc 0 ∷ negsuc 0 ∷ negsuc 0 ∷ negsuc 0 ∷ negsuc 0 ∷ negsuc 0 ∷ []) ∷
    (pos 3 ∷ pos 10 ∷ pos 1 ∷ pos 11 ∷ pos 10 ∷ pos 3 ∷ negsuc 0 ∷ negsuc 0 ∷ negsuc 0 ∷ negsuc 0 ∷ negsuc 0 ∷ negsuc 0 ∷ negsuc 0 ∷ negsuc 0 ∷ negsuc 0 ∷ negsuc 0 ∷ []) ∷
    (pos 0 ∷ pos 10 ∷ pos 1 ∷ pos 0 ∷ pos 8 ∷ pos 10 ∷ pos 8 ∷ pos 11 ∷ pos 10 ∷ negsuc 0 ∷ negsuc 0 ∷ negsuc 0 ∷ negsuc 0 ∷ negsuc 0 ∷ negsuc 0 ∷ negsuc 0 ∷ []) ∷
    (pos 3 ∷ pos 9 ∷ pos 0 ∷ pos 3 ∷ pos 11 ∷ pos 9 ∷ pos 11 ∷ pos 10 ∷ pos 9 ∷ negsuc 0 ∷ negsuc 0 ∷ negsuc 0 ∷ negsuc 0 ∷ negsuc 0 ∷ negsuc 0 ∷ negsuc 0 ∷ []) ∷
    (pos 9 ∷ pos 8 ∷ pos 10 ∷ pos 10 ∷ pos 8 ∷ pos 11 ∷ negsuc 0 ∷ negsuc 0 ∷ negsuc 0 ∷ negsuc 0 ∷ negsuc 0 ∷ negsuc 0 ∷ negsuc 0 ∷ negsuc 0 ∷ negsuc 0 ∷ negsuc 0 ∷ []) ∷
    (pos 4 ∷ pos 7 ∷ pos 8 ∷ negsuc 0 ∷ negsuc 0 ∷ negsuc 0 ∷ negsuc 0 ∷ negsuc 0 ∷ negsuc 0 ∷ negsuc 0 ∷ negsuc 0 ∷ negsuc 0 ∷ negsuc 0 ∷ negsuc 0 ∷ negsuc 0 ∷ negsuc 0 ∷ []) ∷
    (pos 4 ∷ pos 3 ∷ pos 0 ∷ pos 7 ∷ pos 3 ∷ pos 4 ∷ negsuc 0 ∷ negsuc 0 ∷ negsuc 0 ∷ negsuc 0 ∷ negsuc 0 ∷ negsuc 0 ∷ negsuc 0 ∷ negsuc 0 ∷ negsuc 0 ∷ negsuc 0 ∷ []) ∷
    (pos 0 ∷ pos 1 ∷ pos 9 ∷ pos 8 ∷ pos 4 ∷ pos 7 ∷ negsuc 0 ∷ negsuc 0 ∷ negsuc 0 ∷ negsuc 0 ∷ negsuc 0 ∷ negsuc 0 ∷ negsuc 0 ∷ negsuc 0 ∷ negsuc 0 ∷ negsuc 0 ∷ []) ∷
    (pos 4 ∷ pos 1 ∷ pos 9 ∷ pos 4 ∷ pos 7 ∷ pos 1 ∷ pos 7 ∷ pos 3 ∷ pos 1 ∷ negsuc 0 ∷ negsuc 0 ∷ negsuc 0 ∷ negsuc 0 ∷ negsuc 0 ∷ negsuc 0 ∷ negsuc 0 ∷ []) ∷
    (pos 1 ∷ pos 2 ∷ pos 10 ∷ pos 8 ∷ pos 4 ∷ pos 7 ∷ negsuc 0 ∷ negsuc 0 ∷ negsuc 0 ∷ negsuc 0 ∷ negsuc 0 ∷ negsuc 0 ∷ negsuc 0 ∷ negsuc 0 ∷ negsuc 0 ∷ negsuc 0 ∷ []) ∷
    (pos 3 ∷ pos 4 ∷ pos 7 ∷ pos 3 ∷ pos 0 ∷ pos 4 ∷ pos 1 ∷ pos 2 ∷ pos 10 ∷ negsuc 0 ∷ negsuc 0 ∷ negsuc 0 ∷ negsuc 0 ∷ negsuc 0 ∷ negsuc 0 ∷ negsuc 0 ∷ []) ∷
    (pos 9 ∷ pos 2 ∷ pos 10 ∷ pos 9 ∷ pos 0 ∷ pos 2 ∷ pos 8 ∷ pos 4 ∷ pos 7 ∷ negsuc 0 ∷ negsuc 0 ∷ negsuc 0 ∷ negsuc 0 ∷ negsuc 0 ∷ negsuc 0 ∷ negsuc 0 ∷ []) ∷
    (pos 2 ∷ pos 10 ∷ pos 9 ∷ pos 2 ∷ pos 9 ∷ pos 7 ∷ pos 2 ∷ pos 7 ∷ pos 3 ∷ pos 7 ∷ pos 9 ∷ pos 4 ∷ negsuc 0 ∷ negsuc 0 ∷ negsuc 0 ∷ negsuc 0 ∷ []) ∷
    (pos 8 ∷ pos 4 ∷ pos 7 ∷ pos 3 ∷ pos 11 ∷ pos 2 ∷ negsuc 0 ∷ negsuc 0 ∷ negsuc 0 ∷ negsuc 0 ∷ negsuc 0 ∷ negsuc 0 ∷ negsuc 0 ∷ negsuc 0 ∷ negsuc 0 ∷ negsuc 0 ∷ []) ∷
    (pos 11 ∷ pos 4 ∷ pos 7 ∷ pos 11 ∷ pos 2 ∷ pos 4 ∷ pos 2 ∷ pos 0 ∷ pos 4 ∷ negsuc 0 ∷ negsuc 0 ∷ negsuc 0 ∷ negsuc 0 ∷ negsuc 0 ∷ negsuc 0 ∷ negsuc 0 ∷ []) ∷
    (pos 9 ∷ pos 0 ∷ pos 1 ∷ pos 8 ∷ pos 4 ∷ pos 7 ∷ pos 2 ∷ pos 3 ∷ pos 11 ∷ negsuc 0 ∷ negsuc 0 ∷ negsuc 0 ∷ negsuc 0 ∷ negsuc 0 ∷ negsuc 0 ∷ negsuc 0 ∷ []) ∷
    (pos 4 ∷ pos 7 ∷ pos 11 ∷ pos 9 ∷ pos 4 ∷ pos 11 ∷ pos 9 ∷ pos 11 ∷ pos 2 ∷ pos 9 ∷ pos 2 ∷ pos 1 ∷ negsuc 0 ∷ negsuc 0 ∷ negsuc 0 ∷ negsuc 0 ∷ []) ∷
    (pos 3 ∷ pos 10 ∷ pos 1 ∷ pos 3 ∷ pos 11 ∷ pos 10 ∷ pos 7 ∷ pos 8 ∷ pos 4 ∷ negsuc 0 ∷ negsuc 0 ∷ negsuc 0 ∷ negsuc 0 ∷ negsuc 0 ∷ negsuc 0 ∷ negsuc 0 ∷ []) ∷
    (pos 1 ∷ pos 11 ∷ pos 10 ∷ pos 1 ∷ pos 4 ∷ pos 11 ∷ pos 1 ∷ pos 0 ∷ pos 4 ∷ pos 7 ∷ pos 11 ∷ pos 4 ∷ negsuc 0 ∷ negsuc 0 ∷ negsuc 0 ∷ negsuc 0 ∷ []) ∷
    (pos 4 ∷ pos 7 ∷ pos 8 ∷ pos 9 ∷ pos 0 ∷ pos 11 ∷ pos 9 ∷ pos 11 ∷ pos 10 ∷ pos 11 ∷ pos 0 ∷ pos 3 ∷ negsuc 0 ∷ negsuc 0 ∷ negsuc 0 ∷ negsuc 0 ∷ []) ∷
    (pos 4 ∷ pos 7 ∷ pos 11 ∷ pos 4 ∷ pos 11 ∷ pos 9 ∷ pos 9 ∷ pos 11 ∷ pos 10 ∷ negsuc 0 ∷ negsuc 0 ∷ negsuc 0 ∷ negsuc 0 ∷ negsuc 0 ∷ negsuc 0 ∷ negsuc 0 ∷ []) ∷
    (pos 9 ∷ pos 5 ∷ pos 4 ∷ negsuc 0 ∷ negsuc 0 ∷ negsuc 0 ∷ negsuc 0 ∷ negsuc 0 ∷ negsuc 0 ∷ negsuc 0 ∷ negsuc 0 ∷ negsuc 0 ∷ negsuc 0 ∷ negsuc 0 ∷ negsuc 0 ∷ negsuc 0 ∷ []) ∷
    (pos 9 ∷ pos 5 ∷ pos 4 ∷ pos 0 ∷ pos 8 ∷ pos 3 ∷ negsuc 0 ∷ negsuc 0 ∷ negsuc 0 ∷ negsuc 0 ∷ negsuc 0 ∷ negsuc 0 ∷ negsuc 0 ∷ negsuc 0 ∷ negsuc 0 ∷ negsuc 0 ∷ []) ∷
    (pos 0 ∷ pos 5 ∷ pos 4 ∷ pos 1 ∷ pos 5 ∷ pos 0 ∷ negsuc 0 ∷ negsuc 0 ∷ negsuc 0 ∷ negsuc 0 ∷ negsuc 0 ∷ negsuc 0 ∷ negsuc 0 ∷ negsuc 0 ∷ negsuc 0 ∷ negsuc 0 ∷ []) ∷
    (pos 8 ∷ pos 5 ∷ pos 4 ∷ pos 8 ∷ pos 3 ∷ pos 5 ∷ pos 3 ∷ pos 1 ∷ pos 5 ∷ negsuc 0 ∷ negsuc 0 ∷ negsuc 0 ∷ negsuc 0 ∷ negsuc 0 ∷ negsuc 0 ∷ negsuc 0 ∷ []) ∷
    (pos 1 ∷ pos 2 ∷ pos 10 ∷ pos 9 ∷ pos 5 ∷ pos 4 ∷ negsuc 0 ∷ negsuc 0 ∷ negsuc 0 ∷ negsuc 0 ∷ negsuc 0 ∷ negsuc 0 ∷ negsuc 0 ∷ negsuc 0 ∷ negsuc 0 ∷ negsuc 0 ∷ []) ∷
    (pos 3 ∷ pos 0 ∷ pos 8 ∷ pos 1 ∷ pos 2 ∷ pos 10 ∷ pos 4 ∷ pos 9 ∷ pos 5 ∷ negsuc 0 ∷ negsuc 0 ∷ negsuc 0 ∷ negsuc 0 ∷ negsuc 0 ∷ negsuc 0 ∷ negsuc 0 ∷ []) ∷
    (pos 5 ∷ pos 2 ∷ pos 10 ∷ pos 5 ∷ pos 4 ∷ pos 2 ∷ pos 4 ∷ pos 0 ∷ pos 2 ∷ negsuc 0 ∷ negsuc 0 ∷ negsuc 0 ∷ negsuc 0 ∷ negsuc 0 ∷ negsuc 0 ∷ negsuc 0 ∷ []) ∷
    (pos 2 ∷ pos 10 ∷ pos 5 ∷ pos 3 ∷ pos 2 ∷ pos 5 ∷ pos 3 ∷ pos 5 ∷ pos 4 ∷ pos 3 ∷ pos 4 ∷ pos 8 ∷ negsuc 0 ∷ negsuc 0 ∷ negsuc 0 ∷ negsuc 0 ∷ []) ∷
    (pos 9 ∷ pos 5 ∷ pos 4 ∷ pos 2 ∷ pos 3 ∷ pos 11 ∷ negsuc 0 ∷ negsuc 0 ∷ negsuc 0 ∷ negsuc 0 ∷ negsuc 0 ∷ negsuc 0 ∷ negsuc 0 ∷ negsuc 0 ∷ negsuc 0 ∷ negsuc 0 ∷ []) ∷
    (pos 0 ∷ pos 11 ∷ pos 2 ∷ pos 0 ∷ pos 8 ∷ pos 11 ∷ pos 4 ∷ pos 9 ∷ pos 5 ∷ negsuc 0 ∷ negsuc 0 ∷ negsuc 0 ∷ negsuc 0 ∷ negsuc 0 ∷ negsuc 0 ∷ negsuc 0 ∷ []) ∷
    (pos 0 ∷ pos 5 ∷ pos 4 ∷ pos 0 ∷ pos 1 ∷ pos 5 ∷ pos 2 ∷ pos 3 ∷ pos 11 ∷ negsuc 0 ∷ negsuc 0 ∷ negsuc 0 ∷ negsuc 0 ∷ negsuc 0 ∷ negsuc 0 ∷ negsuc 0 ∷ []) ∷
    (pos 2 ∷ pos 1 ∷ pos 5 ∷ pos 2 ∷ pos 5 ∷ pos 8 ∷ pos 2 ∷ pos 8 ∷ pos 11 ∷ pos 4 ∷ pos 8 ∷ pos 5 ∷ negsuc 0 ∷ negsuc 0 ∷ negsuc 0 ∷ negsuc 0 ∷ []) ∷
    (pos 10 ∷ pos 3 ∷ pos 11 ∷ pos 10 ∷ pos 1 ∷ pos 3 ∷ pos 9 ∷ pos 5 ∷ pos 4 ∷ negsuc 0 ∷ negsuc 0 ∷ negsuc 0 ∷ negsuc 0 ∷ negsuc 0 ∷ negsuc 0 ∷ negsuc 0 ∷ []) ∷
    (pos 4 ∷ pos 9 ∷ pos 5 ∷ pos 0 ∷ pos 8 ∷ pos 1 ∷ pos 8 ∷ pos 10 ∷ pos 1 ∷ pos 8 ∷ pos 11 ∷ pos 10 ∷ negsuc 0 ∷ negsuc 0 ∷ negsuc 0 ∷ negsuc 0 ∷ []) ∷
    (pos 5 ∷ pos 4 ∷ pos 0 ∷ pos 5 ∷ pos 0 ∷ pos 11 ∷ pos 5 ∷ pos 11 ∷ pos 10 ∷ pos 11 ∷ pos 0 ∷ pos 3 ∷ negsuc 0 ∷ negsuc 0 ∷ negsuc 0 ∷ negsuc 0 ∷ []) ∷
    (pos 5 ∷ pos 4 ∷ pos 8 ∷ pos 5 ∷ pos 8 ∷ pos 10 ∷ pos 10 ∷ pos 8 ∷ pos 11 ∷ negsuc 0 ∷ negsuc 0 ∷ negsuc 0 ∷ negsuc 0 ∷ negsuc 0 ∷ negsuc 0 ∷ negsuc 0 ∷ []) ∷
    (pos 9 ∷ pos 7 ∷ pos 8 ∷ pos 5 ∷ pos 7 ∷ pos 9 ∷ negsuc 0 ∷ negsuc 0 ∷ negsuc 0 ∷ negsuc 0 ∷ negsuc 0 ∷ negsuc 0 ∷ negsuc 0 ∷ negsuc 0 ∷ negsuc 0 ∷ negsuc 0 ∷ []) ∷
    (pos 9 ∷ pos 3 ∷ pos 0 ∷ pos 9 ∷ pos 5 ∷ pos 3 ∷ pos 5 ∷ pos 7 ∷ pos 3 ∷ negsuc 0 ∷ negsuc 0 ∷ negsuc 0 ∷ negsuc 0 ∷ negsuc 0 ∷ negsuc 0 ∷ negsuc 0 ∷ []) ∷
    (pos 0 ∷ pos 7 ∷ pos 8 ∷ pos 0 ∷ pos 1 ∷ pos 7 ∷ pos 1 ∷ pos 5 ∷ pos 7 ∷ negsuc 0 ∷ negsuc 0 ∷ negsuc 0 ∷ negsuc 0 ∷ negsuc 0 ∷ negsuc 0 ∷ negsuc 0 ∷ []) ∷
    (pos 1 ∷ pos 5 ∷ pos 3 ∷ pos 3 ∷ pos 5 ∷ pos 7 ∷ negsuc 0 ∷ negsuc 0 ∷ negsuc 0 ∷ negsuc 0 ∷ negsuc 0 ∷ negsuc 0 ∷ negsuc 0 ∷ negsuc 0 ∷ negsuc 0 ∷ negsuc 0 ∷ []) ∷
    (pos 9 ∷ pos 7 ∷ pos 8 ∷ pos 9 ∷ pos 5 ∷ pos 7 ∷ pos 10 ∷ pos 1 ∷ pos 2 ∷ negsuc 0 ∷ negsuc 0 ∷ negsuc 0 ∷ negsuc 0 ∷ negsuc 0 ∷ negsuc 0 ∷ negsuc 0 ∷ []) ∷
    (pos 10 ∷ pos 1 ∷ pos 2 ∷ pos 9 ∷ pos 5 ∷ pos 0 ∷ pos 5 ∷ pos 3 ∷ pos 0 ∷ pos 5 ∷ pos 7 ∷ pos 3 ∷ negsuc 0 ∷ negsuc 0 ∷ negsuc 0 ∷ negsuc 0 ∷ []) ∷
    (pos 8 ∷ pos 0 ∷ pos 2 ∷ pos 8 ∷ pos 2 ∷ pos 5 ∷ pos 8 ∷ pos 5 ∷ pos 7 ∷ pos 10 ∷ pos 5 ∷ pos 2 ∷ negsuc 0 ∷ negsuc 0 ∷ negsuc 0 ∷ negsuc 0 ∷ []) ∷
    (pos 2 ∷ pos 10 ∷ pos 5 ∷ pos 2 ∷ pos 5 ∷ pos 3 ∷ pos 3 ∷ pos 5 ∷ pos 7 ∷ negsuc 0 ∷ negsuc 0 ∷ negsuc 0 ∷ negsuc 0 ∷ negsuc 0 ∷ negsuc 0 ∷ negsuc 0 ∷ []) ∷
    (pos 7 ∷ pos 9 ∷ pos 5 ∷ pos 7 ∷ pos 8 ∷ pos 9 ∷ pos 3 ∷ pos 11 ∷ pos 2 ∷ negsuc 0 ∷ negsuc 0 ∷ negsuc 0 ∷ negsuc 0 ∷ negsuc 0 ∷ negsuc 0 ∷ negsuc 0 ∷ []) ∷
    (pos 9 ∷ pos 5 ∷ pos 7 ∷ pos 9 ∷ pos 7 ∷ pos 2 ∷ pos 9 ∷ pos 2 ∷ pos 0 ∷ pos 2 ∷ pos 7 ∷ pos 11 ∷ negsuc 0 ∷ negsuc 0 ∷ negsuc 0 ∷ negsuc 0 ∷ []) ∷
    (pos 2 ∷ pos 3 ∷ pos 11 ∷ pos 0 ∷ pos 1 ∷ pos 8 ∷ pos 1 ∷ pos 7 ∷ pos 8 ∷ pos 1 ∷ pos 5 ∷ pos 7 ∷ negsuc 0 ∷ negsuc 0 ∷ negsuc 0 ∷ negsuc 0 ∷ []) ∷
    (pos 11 ∷ pos 2 ∷ pos 1 ∷ pos 11 ∷ pos 1 ∷ pos 7 ∷ pos 7 ∷ pos 1 ∷ pos 5 ∷ negsuc 0 ∷ negsuc 0 ∷ negsuc 0 ∷ negsuc 0 ∷ negsuc 0 ∷ negsuc 0 ∷ negsuc 0 ∷ []) ∷
    (pos 9 ∷ pos 5 ∷ pos 8 ∷ pos 8 ∷ pos 5 ∷ pos 7 ∷ pos 10 ∷ pos 1 ∷ pos 3 ∷ pos 10 ∷ pos 3 ∷ pos 11 ∷ negsuc 0 ∷ negsuc 0 ∷ negsuc 0 ∷ negsuc 0 ∷ []) ∷
    (pos 5 ∷ pos 7 ∷ pos 0 ∷ pos 5 ∷ pos 0 ∷ pos 9 ∷ pos 7 ∷ pos 11 ∷ pos 0 ∷ pos 1 ∷ pos 0 ∷ pos 10 ∷ pos 11 ∷ pos 10 ∷ pos 0 ∷ negsuc 0 ∷ []) ∷
    (pos 11 ∷ pos 10 ∷ pos 0 ∷ pos 11 ∷ pos 0 ∷ pos 3 ∷ pos 10 ∷ pos 5 ∷ pos 0 ∷ pos 8 ∷ pos 0 ∷ pos 7 ∷ pos 5 ∷ pos 7 ∷ pos 0 ∷ negsuc 0 ∷ []) ∷
    (pos 11 ∷ pos 10 ∷ pos 5 ∷ pos 7 ∷ pos 11 ∷ pos 5 ∷ negsuc 0 ∷ negsuc 0 ∷ negsuc 0 ∷ negsuc 0 ∷ negsuc 0 ∷ negsuc 0 ∷ negsuc 0 ∷ negsuc 0 ∷ negsuc 0 ∷ negsuc 0 ∷ []) ∷
    (pos 10 ∷ pos 6 ∷ pos 5 ∷ negsuc 0 ∷ negsuc 0 ∷ negsuc 0 ∷ negsuc 0 ∷ negsuc 0 ∷ negsuc 0 ∷ negsuc 0 ∷ negsuc 0 ∷ negsuc 0 ∷ negsuc 0 ∷ negsuc 0 ∷ negsuc 0 ∷ negsuc 0 ∷ []) ∷
    (pos 0 ∷ pos 8 ∷ pos 3 ∷ pos 5 ∷ pos 10 ∷ pos 6 ∷ negsuc 0 ∷ negsuc 0 ∷ negsuc 0 ∷ negsuc 0 ∷ negsuc 0 ∷ negsuc 0 ∷ negsuc 0 ∷ negsuc 0 ∷ negsuc 0 ∷ negsuc 0 ∷ []) ∷
    (pos 9 ∷ pos 0 ∷ pos 1 ∷ pos 5 ∷ pos 10 ∷ pos 6 ∷ negsuc 0 ∷ negsuc 0 ∷ negsuc 0 ∷ negsuc 0 ∷ negsuc 0 ∷ negsuc 0 ∷ negsuc 0 ∷ negsuc 0 ∷ negsuc 0 ∷ negsuc 0 ∷ []) ∷
    (pos 1 ∷ pos 8 ∷ pos 3 ∷ pos 1 ∷ pos 9 ∷ pos 8 ∷ pos 5 ∷ pos 10 ∷ pos 6 ∷ negsuc 0 ∷ negsuc 0 ∷ negsuc 0 ∷ negsuc 0 ∷ negsuc 0 ∷ negsuc 0 ∷ negsuc 0 ∷ []) ∷
    (pos 1 ∷ pos 6 ∷ pos 5 ∷ pos 2 ∷ pos 6 ∷ pos 1 ∷ negsuc 0 ∷ negsuc 0 ∷ negsuc 0 ∷ negsuc 0 ∷ negsuc 0 ∷ negsuc 0 ∷ negsuc 0 ∷ negsuc 0 ∷ negsuc 0 ∷ negsuc 0 ∷ []) ∷
    (pos 1 ∷ pos 6 ∷ pos 5 ∷ pos 1 ∷ pos 2 ∷ pos 6 ∷ pos 3 ∷ pos 0 ∷ pos 8 ∷ negsuc 0 ∷ negsuc 0 ∷ negsuc 0 ∷ negsuc 0 ∷ negsuc 0 ∷ negsuc 0 ∷ negsuc 0 ∷ []) ∷
    (pos 9 ∷ pos 6 ∷ pos 5 ∷ pos 9 ∷ pos 0 ∷ pos 6 ∷ pos 0 ∷ pos 2 ∷ pos 6 ∷ negsuc 0 ∷ negsuc 0 ∷ negsuc 0 ∷ negsuc 0 ∷ negsuc 0 ∷ negsuc 0 ∷ negsuc 0 ∷ []) ∷
    (pos 5 ∷ pos 9 ∷ pos 8 ∷ pos 5 ∷ pos 8 ∷ pos 2 ∷ pos 5 ∷ pos 2 ∷ pos 6 ∷ pos 3 ∷ pos 2 ∷ pos 8 ∷ negsuc 0 ∷ negsuc 0 ∷ negsuc 0 ∷ negsuc 0 ∷ []) ∷
    (pos 2 ∷ pos 3 ∷ pos 11 ∷ pos 10 ∷ pos 6 ∷ pos 5 ∷ negsuc 0 ∷ negsuc 0 ∷ negsuc 0 ∷ negsuc 0 ∷ negsuc 0 ∷ negsuc 0 ∷ negsuc 0 ∷ negsuc 0 ∷ negsuc 0 ∷ negsuc 0 ∷ []) ∷
    (pos 11 ∷ pos 0 ∷ pos 8 ∷ pos 11 ∷ pos 2 ∷ pos 0 ∷ pos 10 ∷ pos 6 ∷ pos 5 ∷ negsuc 0 ∷ negsuc 0 ∷ negsuc 0 ∷ negsuc 0 ∷ negsuc 0 ∷ negsuc 0 ∷ negsuc 0 ∷ []) ∷
    (pos 0 ∷ pos 1 ∷ pos 9 ∷ pos 2 ∷ pos 3 ∷ pos 11 ∷ pos 5 ∷ pos 10 ∷ pos 6 ∷ negsuc 0 ∷ negsuc 0 ∷ negsuc 0 ∷ negsuc 0 ∷ negsuc 0 ∷ negsuc 0 ∷ negsuc 0 ∷ []) ∷
    (pos 5 ∷ pos 10 ∷ pos 6 ∷ pos 1 ∷ pos 9 ∷ pos 2 ∷ pos 9 ∷ pos 11 ∷ pos 2 ∷ pos 9 ∷ pos 8 ∷ pos 11 ∷ negsuc 0 ∷ negsuc 0 ∷ negsuc 0 ∷ negsuc 0 ∷ []) ∷
    (pos 6 ∷ pos 3 ∷ pos 11 ∷ pos 6 ∷ pos 5 ∷ pos 3 ∷ pos 5 ∷ pos 1 ∷ pos 3 ∷ negsuc 0 ∷ negsuc 0 ∷ negsuc 0 ∷ negsuc 0 ∷ negsuc 0 ∷ negsuc 0 ∷ negsuc 0 ∷ []) ∷
    (pos 0 ∷ pos 8 ∷ pos 11 ∷ pos 0 ∷ pos 11 ∷ pos 5 ∷ pos 0 ∷ pos 5 ∷ pos 1 ∷ pos 5 ∷ pos 11 ∷ pos 6 ∷ negsuc 0 ∷ negsuc 0 ∷ negsuc 0 ∷ negsuc 0 ∷ []) ∷
    (pos 3 ∷ pos 11 ∷ pos 6 ∷ pos 0 ∷ pos 3 ∷ pos 6 ∷ pos 0 ∷ pos 6 ∷ pos 5 ∷ pos 0 ∷ pos 5 ∷ pos 9 ∷ negsuc 0 ∷ negsuc 0 ∷ negsuc 0 ∷ negsuc 0 ∷ []) ∷
    (pos 6 ∷ pos 5 ∷ pos 9 ∷ pos 6 ∷ pos 9 ∷ pos 11 ∷ pos 11 ∷ pos 9 ∷ pos 8 ∷ negsuc 0 ∷ negsuc 0 ∷ negsuc 0 ∷ negsuc 0 ∷ negsuc 0 ∷ negsuc 0 ∷ negsuc 0 ∷ []) ∷
    (pos 5 ∷ pos 10 ∷ pos 6 ∷ pos 4 ∷ pos 7 ∷ pos 8 ∷ negsuc 0 ∷ negsuc 0 ∷ negsuc 0 ∷ negsuc 0 ∷ negsuc 0 ∷ negsuc 0 ∷ negsuc 0 ∷ negsuc 0 ∷ negsuc 0 ∷ negsuc 0 ∷ []) ∷
    (pos 4 ∷ pos 3 ∷ pos 0 ∷ pos 4 ∷ pos 7 ∷ pos 3 ∷ pos 6 ∷ pos 5 ∷ pos 10 ∷ negsuc 0 ∷ negsuc 0 ∷ negsuc 0 ∷ negsuc 0 ∷ negsuc 0 ∷ negsuc 0 ∷ negsuc 0 ∷ []) ∷
    (pos 1 ∷ pos 9 ∷ pos 0 ∷ pos 5 ∷ pos 10 ∷ pos 6 ∷ pos 8 ∷ pos 4 ∷ pos 7 ∷ negsuc 0 ∷ negsuc 0 ∷ negsuc 0 ∷ negsuc 0 ∷ negsuc 0 ∷ negsuc 0 ∷ negsuc 0 ∷ []) ∷
    (pos 10 ∷ pos 6 ∷ pos 5 ∷ pos 1 ∷ pos 9 ∷ pos 7 ∷ pos 1 ∷ pos 7 ∷ pos 3 ∷ pos 7 ∷ pos 9 ∷ pos 4 ∷ negsuc 0 ∷ negsuc 0 ∷ negsuc 0 ∷ negsuc 0 ∷ []) ∷
    (pos 6 ∷ pos 1 ∷ pos 2 ∷ pos 6 ∷ pos 5 ∷ pos 1 ∷ pos 4 ∷ pos 7 ∷ pos 8 ∷ negsuc 0 ∷ negsuc 0 ∷ negsuc 0 ∷ negsuc 0 ∷ negsuc 0 ∷ negsuc 0 ∷ negsuc 0 ∷ []) ∷
    (pos 1 ∷ pos 2 ∷ pos 5 ∷ pos 5 ∷ pos 2 ∷ pos 6 ∷ pos 3 ∷ pos 0 ∷ pos 4 ∷ pos 3 ∷ pos 4 ∷ pos 7 ∷ negsuc 0 ∷ negsuc 0 ∷ negsuc 0 ∷ negsuc 0 ∷ []) ∷
    (pos 8 ∷ pos 4 ∷ pos 7 ∷ pos 9 ∷ pos 0 ∷ pos 5 ∷ pos 0 ∷ pos 6 ∷ pos 5 ∷ pos 0 ∷ pos 2 ∷ pos 6 ∷ negsuc 0 ∷ negsuc 0 ∷ negsuc 0 ∷ negsuc 0 ∷ []) ∷
    (pos 7 ∷ pos 3 ∷ pos 9 ∷ pos 7 ∷ pos 9 ∷ pos 4 ∷ pos 3 ∷ pos 2 ∷ pos 9 ∷ pos 5 ∷ pos 9 ∷ pos 6 ∷ pos 2 ∷ pos 6 ∷ pos 9 ∷ negsuc 0 ∷ []) ∷
    (pos 3 ∷ pos 11 ∷ pos 2 ∷ pos 7 ∷ pos 8 ∷ pos 4 ∷ pos 10 ∷ pos 6 ∷ pos 5 ∷ negsuc 0 ∷ negsuc 0 ∷ negsuc 0 ∷ negsuc 0 ∷ negsuc 0 ∷ negsuc 0 ∷ negsuc 0 ∷ []) ∷
    (pos 5 ∷ pos 10 ∷ pos 6 ∷ pos 4 ∷ pos 7 ∷ pos 2 ∷ pos 4 ∷ pos 2 ∷ pos 0 ∷ pos 2 ∷ pos 7 ∷ pos 11 ∷ negsuc 0 ∷ negsuc 0 ∷ negsuc 0 ∷ negsuc 0 ∷ []) ∷
    (pos 0 ∷ pos 1 ∷ pos 9 ∷ pos 4 ∷ pos 7 ∷ pos 8 ∷ pos 2 ∷ pos 3 ∷ pos 11 ∷ pos 5 ∷ pos 10 ∷ pos 6 ∷ negsuc 0 ∷ negsuc 0 ∷ negsuc 0 ∷ negsuc 0 ∷ []) ∷
    (pos 9 ∷ pos 2 ∷ pos 1 ∷ pos 9 ∷ pos 11 ∷ pos 2 ∷ pos 9 ∷ pos 4 ∷ pos 11 ∷ pos 7 ∷ pos 11 ∷ pos 4 ∷ pos 5 ∷ pos 10 ∷ pos 6 ∷ negsuc 0 ∷ []) ∷
    (pos 8 ∷ pos 4 ∷ pos 7 ∷ pos 3 ∷ pos 11 ∷ pos 5 ∷ pos 3 ∷ pos 5 ∷ pos 1 ∷ pos 5 ∷ pos 11 ∷ pos 6 ∷ negsuc 0 ∷ negsuc 0 ∷ negsuc 0 ∷ negsuc 0 ∷ []) ∷
    (pos 5 ∷ pos 1 ∷ pos 11 ∷ pos 5 ∷ pos 11 ∷ pos 6 ∷ pos 1 ∷ pos 0 ∷ pos 11 ∷ pos 7 ∷ pos 11 ∷ pos 4 ∷ pos 0 ∷ pos 4 ∷ pos 11 ∷ negsuc 0 ∷ []) ∷
    (pos 0 ∷ pos 5 ∷ pos 9 ∷ pos 0 ∷ pos 6 ∷ pos 5 ∷ pos 0 ∷ pos 3 ∷ pos 6 ∷ pos 11 ∷ pos 6 ∷ pos 3 ∷ pos 8 ∷ pos 4 ∷ pos 7 ∷ negsuc 0 ∷ []) ∷
    (pos 6 ∷ pos 5 ∷ pos 9 ∷ pos 6 ∷ pos 9 ∷ pos 11 ∷ pos 4 ∷ pos 7 ∷ pos 9 ∷ pos 7 ∷ pos 11 ∷ pos 9 ∷ negsuc 0 ∷ negsuc 0 ∷ negsuc 0 ∷ negsuc 0 ∷ []) ∷
    (pos 10 ∷ pos 4 ∷ pos 9 ∷ pos 6 ∷ pos 4 ∷ pos 10 ∷ negsuc 0 ∷ negsuc 0 ∷ negsuc 0 ∷ negsuc 0 ∷ negsuc 0 ∷ negsuc 0 ∷ negsuc 0 ∷ negsuc 0 ∷ negsuc 0 ∷ negsuc 0 ∷ []) ∷
    (pos 4 ∷ pos 10 ∷ pos 6 ∷ pos 4 ∷ pos 9 ∷ pos 10 ∷ pos 0 ∷ pos 8 ∷ pos 3 ∷ negsuc 0 ∷ negsuc 0 ∷ negsuc 0 ∷ negsuc 0 ∷ negsuc 0 ∷ negsuc 0 ∷ negsuc 0 ∷ []) ∷
    (pos 10 ∷ pos 0 ∷ pos 1 ∷ pos 10 ∷ pos 6 ∷ pos 0 ∷ pos 6 ∷ pos 4 ∷ pos 0 ∷ negsuc 0 ∷ negsuc 0 ∷ negsuc 0 ∷ negsuc 0 ∷ negsuc 0 ∷ negsuc 0 ∷ negsuc 0 ∷ []) ∷
    (pos 8 ∷ pos 3 ∷ pos 1 ∷ pos 8 ∷ pos 1 ∷ pos 6 ∷ pos 8 ∷ pos 6 ∷ pos 4 ∷ pos 6 ∷ pos 1 ∷ pos 10 ∷ negsuc 0 ∷ negsuc 0 ∷ negsuc 0 ∷ negsuc 0 ∷ []) ∷
    (pos 1 ∷ pos 4 ∷ pos 9 ∷ pos 1 ∷ pos 2 ∷ pos 4 ∷ pos 2 ∷ pos 6 ∷ pos 4 ∷ negsuc 0 ∷ negsuc 0 ∷ negsuc 0 ∷ negsuc 0 ∷ negsuc 0 ∷ negsuc 0 ∷ negsuc 0 ∷ []) ∷
    (pos 3 ∷ pos 0 ∷ pos 8 ∷ pos 1 ∷ pos 2 ∷ pos 9 ∷ pos 2 ∷ pos 4 ∷ pos 9 ∷ pos 2 ∷ pos 6 ∷ pos 4 ∷ negsuc 0 ∷ negsuc 0 ∷ negsuc 0 ∷ negsuc 0 ∷ []) ∷
    (pos 0 ∷ pos 2 ∷ pos 4 ∷ pos 4 ∷ pos 2 ∷ pos 6 ∷ negsuc 0 ∷ negsuc 0 ∷ negsuc 0 ∷ negsuc 0 ∷ negsuc 0 ∷ negsuc 0 ∷ negsuc 0 ∷ negsuc 0 ∷ negsuc 0 ∷ negsuc 0 ∷ []) ∷
    (pos 8 ∷ pos 3 ∷ pos 2 ∷ pos 8 ∷ pos 2 ∷ pos 4 ∷ pos 4 ∷ pos 2 ∷ pos 6 ∷ negsuc 0 ∷ negsuc 0 ∷ negsuc 0 ∷ negsuc 0 ∷ negsuc 0 ∷ negsuc 0 ∷ negsuc 0 ∷ []) ∷
    (pos 10 ∷ pos 4 ∷ pos 9 ∷ pos 10 ∷ pos 6 ∷ pos 4 ∷ pos 11 ∷ pos 2 ∷ pos 3 ∷ negsuc 0 ∷ negsuc 0 ∷ negsuc 0 ∷ negsuc 0 ∷ negsuc 0 ∷ negsuc 0 ∷ negsuc 0 ∷ []) ∷
    (pos 0 ∷ pos 8 ∷ pos 2 ∷ pos 2 ∷ pos 8 ∷ pos 11 ∷ pos 4 ∷ pos 9 ∷ pos 10 ∷ pos 4 ∷ pos 10 ∷ pos 6 ∷ negsuc 0 ∷ negsuc 0 ∷ negsuc 0 ∷ negsuc 0 ∷ []) ∷
    (pos 3 ∷ pos 11 ∷ pos 2 ∷ pos 0 ∷ pos 1 ∷ pos 6 ∷ pos 0 ∷ pos 6 ∷ pos 4 ∷ pos 6 ∷ pos 1 ∷ pos 10 ∷ negsuc 0 ∷ negsuc 0 ∷ negsuc 0 ∷ negsuc 0 ∷ []) ∷
    (pos 6 ∷ pos 4 ∷ pos 1 ∷ pos 6 ∷ pos 1 ∷ pos 10 ∷ pos 4 ∷ pos 8 ∷ pos 1 ∷ pos 2 ∷ pos 1 ∷ pos 11 ∷ pos 8 ∷ pos 11 ∷ pos 1 ∷ negsuc 0 ∷ []) ∷
    (pos 9 ∷ pos 6 ∷ pos 4 ∷ pos 9 ∷ pos 3 ∷ pos 6 ∷ pos 9 ∷ pos 1 ∷ pos 3 ∷ pos 11 ∷ pos 6 ∷ pos 3 ∷ negsuc 0 ∷ negsuc 0 ∷ negsuc 0 ∷ negsuc 0 ∷ []) ∷
    (pos 8 ∷ pos 11 ∷ pos 1 ∷ pos 8 ∷ pos 1 ∷ pos 0 ∷ pos 11 ∷ pos 6 ∷ pos 1 ∷ pos 9 ∷ pos 1 ∷ pos 4 ∷ pos 6 ∷ pos 4 ∷ pos 1 ∷ negsuc 0 ∷ []) ∷
    (pos 3 ∷ pos 11 ∷ pos 6 ∷ pos 3 ∷ pos 6 ∷ pos 0 ∷ pos 0 ∷ pos 6 ∷ pos 4 ∷ negsuc 0 ∷ negsuc 0 ∷ negsuc 0 ∷ negsuc 0 ∷ negsuc 0 ∷ negsuc 0 ∷ negsuc 0 ∷ []) ∷
    (pos 6 ∷ pos 4 ∷ pos 8 ∷ pos 11 ∷ pos 6 ∷ pos 8 ∷ negsuc 0 ∷ negsuc 0 ∷ negsuc 0 ∷ negsuc 0 ∷ negsuc 0 ∷ negsuc 0 ∷ negsuc 0 ∷ negsuc 0 ∷ negsuc 0 ∷ negsuc 0 ∷ []) ∷
    (pos 7 ∷ pos 10 ∷ pos 6 ∷ pos 7 ∷ pos 8 ∷ pos 10 ∷ pos 8 ∷ pos 9 ∷ pos 10 ∷ negsuc 0 ∷ negsuc 0 ∷ negsuc 0 ∷ negsuc 0 ∷ negsuc 0 ∷ negsuc 0 ∷ negsuc 0 ∷ []) ∷
    (pos 0 ∷ pos 7 ∷ pos 3 ∷ pos 0 ∷ pos 10 ∷ pos 7 ∷ pos 0 ∷ pos 9 ∷ pos 10 ∷ pos 6 ∷ pos 7 ∷ pos 10 ∷ negsuc 0 ∷ negsuc 0 ∷ negsuc 0 ∷ negsuc 0 ∷ []) ∷
    (pos 10 ∷ pos 6 ∷ pos 7 ∷ pos 1 ∷ pos 10 ∷ pos 7 ∷ pos 1 ∷ pos 7 ∷ pos 8 ∷ pos 1 ∷ pos 8 ∷ pos 0 ∷ negsuc 0 ∷ negsuc 0 ∷ negsuc 0 ∷ negsuc 0 ∷ []) ∷
    (pos 10 ∷ pos 6 ∷ pos 7 ∷ pos 10 ∷ pos 7 ∷ pos 1 ∷ pos 1 ∷ pos 7 ∷ pos 3 ∷ negsuc 0 ∷ negsuc 0 ∷ negsuc 0 ∷ negsuc 0 ∷ negsuc 0 ∷ negsuc 0 ∷ negsuc 0 ∷ []) ∷
    (pos 1 ∷ pos 2 ∷ pos 6 ∷ pos 1 ∷ pos 6 ∷ pos 8 ∷ pos 1 ∷ pos 8 ∷ pos 9 ∷ pos 8 ∷ pos 6 ∷ pos 7 ∷ negsuc 0 ∷ negsuc 0 ∷ negsuc 0 ∷ negsuc 0 ∷ []) ∷
    (pos 2 ∷ pos 6 ∷ pos 9 ∷ pos 2 ∷ pos 9 ∷ pos 1 ∷ pos 6 ∷ pos 7 ∷ pos 9 ∷ pos 0 ∷ pos 9 ∷ pos 3 ∷ pos 7 ∷ pos 3 ∷ pos 9 ∷ negsuc 0 ∷ []) ∷
    (pos 7 ∷ pos 8 ∷ pos 0 ∷ pos 7 ∷ pos 0 ∷ pos 6 ∷ pos 6 ∷ pos 0 ∷ pos 2 ∷ negsuc 0 ∷ negsuc 0 ∷ negsuc 0 ∷ negsuc 0 ∷ negsuc 0 ∷ negsuc 0 ∷ negsuc 0 ∷ []) ∷
    (pos 7 ∷ pos 3 ∷ pos 2 ∷ pos 6 ∷ pos 7 ∷ pos 2 ∷ negsuc 0 ∷ negsuc 0 ∷ negsuc 0 ∷ negsuc 0 ∷ negsuc 0 ∷ negsuc 0 ∷ negsuc 0 ∷ negsuc 0 ∷ negsuc 0 ∷ negsuc 0 ∷ []) ∷
    (pos 2 ∷ pos 3 ∷ pos 11 ∷ pos 10 ∷ pos 6 ∷ pos 8 ∷ pos 10 ∷ pos 8 ∷ pos 9 ∷ pos 8 ∷ pos 6 ∷ pos 7 ∷ negsuc 0 ∷ negsuc 0 ∷ negsuc 0 ∷ negsuc 0 ∷ []) ∷
    (pos 2 ∷ pos 0 ∷ pos 7 ∷ pos 2 ∷ pos 7 ∷ pos 11 ∷ pos 0 ∷ pos 9 ∷ pos 7 ∷ pos 6 ∷ pos 7 ∷ pos 10 ∷ pos 9 ∷ pos 10 ∷ pos 7 ∷ negsuc 0 ∷ []) ∷
    (pos 1 ∷ pos 8 ∷ pos 0 ∷ pos 1 ∷ pos 7 ∷ pos 8 ∷ pos 1 ∷ pos 10 ∷ pos 7 ∷ pos 6 ∷ pos 7 ∷ pos 10 ∷ pos 2 ∷ pos 3 ∷ pos 11 ∷ negsuc 0 ∷ []) ∷
    (pos 11 ∷ pos 2 ∷ pos 1 ∷ pos 11 ∷ pos 1 ∷ pos 7 ∷ pos 10 ∷ pos 6 ∷ pos 1 ∷ pos 6 ∷ pos 7 ∷ pos 1 ∷ negsuc 0 ∷ negsuc 0 ∷ negsuc 0 ∷ negsuc 0 ∷ []) ∷
    (pos 8 ∷ pos 9 ∷ pos 6 ∷ pos 8 ∷ pos 6 ∷ pos 7 ∷ pos 9 ∷ pos 1 ∷ pos 6 ∷ pos 11 ∷ pos 6 ∷ pos 3 ∷ pos 1 ∷ pos 3 ∷ pos 6 ∷ negsuc 0 ∷ []) ∷
    (pos 0 ∷ pos 9 ∷ pos 1 ∷ pos 11 ∷ pos 6 ∷ pos 7 ∷ negsuc 0 ∷ negsuc 0 ∷ negsuc 0 ∷ negsuc 0 ∷ negsuc 0 ∷ negsuc 0 ∷ negsuc 0 ∷ negsuc 0 ∷ negsuc 0 ∷ negsuc 0 ∷ []) ∷
    (pos 7 ∷ pos 8 ∷ pos 0 ∷ pos 7 ∷ pos 0 ∷ pos 6 ∷ pos 3 ∷ pos 11 ∷ pos 0 ∷ pos 11 ∷ pos 6 ∷ pos 0 ∷ negsuc 0 ∷ negsuc 0 ∷ negsuc 0 ∷ negsuc 0 ∷ []) ∷
    (pos 7 ∷ pos 11 ∷ pos 6 ∷ negsuc 0 ∷ negsuc 0 ∷ negsuc 0 ∷ negsuc 0 ∷ negsuc 0 ∷ negsuc 0 ∷ negsuc 0 ∷ negsuc 0 ∷ negsuc 0 ∷ negsuc 0 ∷ negsuc 0 ∷ negsuc 0 ∷ negsuc 0 ∷ []) ∷
    (pos 7 ∷ pos 6 ∷ pos 11 ∷ negsuc 0 ∷ negsuc 0 ∷ negsuc 0 ∷ negsuc 0 ∷ negsuc 0 ∷ negsuc 0 ∷ negsuc 0 ∷ negsuc 0 ∷ negsuc 0 ∷ negsuc 0 ∷ negsuc 0 ∷ negsuc 0 ∷ negsuc 0 ∷ []) ∷
    (pos 3 ∷ pos 0 ∷ pos 8 ∷ pos 11 ∷ pos 7 ∷ pos 6 ∷ negsuc 0 ∷ negsuc 0 ∷ negsuc 0 ∷ negsuc 0 ∷ negsuc 0 ∷ negsuc 0 ∷ negsuc 0 ∷ negsuc 0 ∷ negsuc 0 ∷ negsuc 0 ∷ []) ∷
    (pos 0 ∷ pos 1 ∷ pos 9 ∷ pos 11 ∷ pos 7 ∷ pos 6 ∷ negsuc 0 ∷ negsuc 0 ∷ negsuc 0 ∷ negsuc 0 ∷ negsuc 0 ∷ negsuc 0 ∷ negsuc 0 ∷ negsuc 0 ∷ negsuc 0 ∷ negsuc 0 ∷ []) ∷
    (pos 8 ∷ pos 1 ∷ pos 9 ∷ pos 8 ∷ pos 3 ∷ pos 1 ∷ pos 11 ∷ pos 7 ∷ pos 6 ∷ negsuc 0 ∷ negsuc 0 ∷ negsuc 0 ∷ negsuc 0 ∷ negsuc 0 ∷ negsuc 0 ∷ negsuc 0 ∷ []) ∷
    (pos 10 ∷ pos 1 ∷ pos 2 ∷ pos 6 ∷ pos 11 ∷ pos 7 ∷ negsuc 0 ∷ negsuc 0 ∷ negsuc 0 ∷ negsuc 0 ∷ negsuc 0 ∷ negsuc 0 ∷ negsuc 0 ∷ negsuc 0 ∷ negsuc 0 ∷ negsuc 0 ∷ []) ∷
    (pos 1 ∷ pos 2 ∷ pos 10 ∷ pos 3 ∷ pos 0 ∷ pos 8 ∷ pos 6 ∷ pos 11 ∷ pos 7 ∷ negsuc 0 ∷ negsuc 0 ∷ negsuc 0 ∷ negsuc 0 ∷ negsuc 0 ∷ negsuc 0 ∷ negsuc 0 ∷ []) ∷
    (pos 2 ∷ pos 9 ∷ pos 0 ∷ pos 2 ∷ pos 10 ∷ pos 9 ∷ pos 6 ∷ pos 11 ∷ pos 7 ∷ negsuc 0 ∷ negsuc 0 ∷ negsuc 0 ∷ negsuc 0 ∷ negsuc 0 ∷ negsuc 0 ∷ negsuc 0 ∷ []) ∷
    (pos 6 ∷ pos 11 ∷ pos 7 ∷ pos 2 ∷ pos 10 ∷ pos 3 ∷ pos 10 ∷ pos 8 ∷ pos 3 ∷ pos 10 ∷ pos 9 ∷ pos 8 ∷ negsuc 0 ∷ negsuc 0 ∷ negsuc 0 ∷ negsuc 0 ∷ []) ∷
    (pos 7 ∷ pos 2 ∷ pos 3 ∷ pos 6 ∷ pos 2 ∷ pos 7 ∷ negsuc 0 ∷ negsuc 0 ∷ negsuc 0 ∷ negsuc 0 ∷ negsuc 0 ∷ negsuc 0 ∷ negsuc 0 ∷ negsuc 0 ∷ negsuc 0 ∷ negsuc 0 ∷ []) ∷
    (pos 7 ∷ pos 0 ∷ pos 8 ∷ pos 7 ∷ pos 6 ∷ pos 0 ∷ pos 6 ∷ pos 2 ∷ pos 0 ∷ negsuc 0 ∷ negsuc 0 ∷ negsuc 0 ∷ negsuc 0 ∷ negsuc 0 ∷ negsuc 0 ∷ negsuc 0 ∷ []) ∷
    (pos 2 ∷ pos 7 ∷ pos 6 ∷ pos 2 ∷ pos 3 ∷ pos 7 ∷ pos 0 ∷ pos 1 ∷ pos 9 ∷ negsuc 0 ∷ negsuc 0 ∷ negsuc 0 ∷ negsuc 0 ∷ negsuc 0 ∷ negsuc 0 ∷ negsuc 0 ∷ []) ∷
    (pos 1 ∷ pos 6 ∷ pos 2 ∷ pos 1 ∷ pos 8 ∷ pos 6 ∷ pos 1 ∷ pos 9 ∷ pos 8 ∷ pos 8 ∷ pos 7 ∷ pos 6 ∷ negsuc 0 ∷ negsuc 0 ∷ negsuc 0 ∷ negsuc 0 ∷ []) ∷
    (pos 10 ∷ pos 7 ∷ pos 6 ∷ pos 10 ∷ pos 1 ∷ pos 7 ∷ pos 1 ∷ pos 3 ∷ pos 7 ∷ negsuc 0 ∷ negsuc 0 ∷ negsuc 0 ∷ negsuc 0 ∷ negsuc 0 ∷ negsuc 0 ∷ negsuc 0 ∷ []) ∷
    (pos 10 ∷ pos 7 ∷ pos 6 ∷ pos 1 ∷ pos 7 ∷ pos 10 ∷ pos 1 ∷ pos 8 ∷ pos 7 ∷ pos 1 ∷ pos 0 ∷ pos 8 ∷ negsuc 0 ∷ negsuc 0 ∷ negsuc 0 ∷ negsuc 0 ∷ []) ∷
    (pos 0 ∷ pos 3 ∷ pos 7 ∷ pos 0 ∷ pos 7 ∷ pos 10 ∷ pos 0 ∷ pos 10 ∷ pos 9 ∷ pos 6 ∷ pos 10 ∷ pos 7 ∷ negsuc 0 ∷ negsuc 0 ∷ negsuc 0 ∷ negsuc 0 ∷ []) ∷
    (pos 7 ∷ pos 6 ∷ pos 10 ∷ pos 7 ∷ pos 10 ∷ pos 8 ∷ pos 8 ∷ pos 10 ∷ pos 9 ∷ negsuc 0 ∷ negsuc 0 ∷ negsuc 0 ∷ negsuc 0 ∷ negsuc 0 ∷ negsuc 0 ∷ negsuc 0 ∷ []) ∷
    (pos 6 ∷ pos 8 ∷ pos 4 ∷ pos 11 ∷ pos 8 ∷ pos 6 ∷ negsuc 0 ∷ negsuc 0 ∷ negsuc 0 ∷ negsuc 0 ∷ negsuc 0 ∷ negsuc 0 ∷ negsuc 0 ∷ negsuc 0 ∷ negsuc 0 ∷ negsuc 0 ∷ []) ∷
    (pos 3 ∷ pos 6 ∷ pos 11 ∷ pos 3 ∷ pos 0 ∷ pos 6 ∷ pos 0 ∷ pos 4 ∷ pos 6 ∷ negsuc 0 ∷ negsuc 0 ∷ negsuc 0 ∷ negsuc 0 ∷ negsuc 0 ∷ negsuc 0 ∷ negsuc 0 ∷ []) ∷
    (pos 8 ∷ pos 6 ∷ pos 11 ∷ pos 8 ∷ pos 4 ∷ pos 6 ∷ pos 9 ∷ pos 0 ∷ pos 1 ∷ negsuc 0 ∷ negsuc 0 ∷ negsuc 0 ∷ negsuc 0 ∷ negsuc 0 ∷ negsuc 0 ∷ negsuc 0 ∷ []) ∷
    (pos 9 ∷ pos 4 ∷ pos 6 ∷ pos 9 ∷ pos 6 ∷ pos 3 ∷ pos 9 ∷ pos 3 ∷ pos 1 ∷ pos 11 ∷ pos 3 ∷ pos 6 ∷ negsuc 0 ∷ negsuc 0 ∷ negsuc 0 ∷ negsuc 0 ∷ []) ∷
    (pos 6 ∷ pos 8 ∷ pos 4 ∷ pos 6 ∷ pos 11 ∷ pos 8 ∷ pos 2 ∷ pos 10 ∷ pos 1 ∷ negsuc 0 ∷ negsuc 0 ∷ negsuc 0 ∷ negsuc 0 ∷ negsuc 0 ∷ negsuc 0 ∷ negsuc 0 ∷ []) ∷
    (pos 1 ∷ pos 2 ∷ pos 10 ∷ pos 3 ∷ pos 0 ∷ pos 11 ∷ pos 0 ∷ pos 6 ∷ pos 11 ∷ pos 0 ∷ pos 4 ∷ pos 6 ∷ negsuc 0 ∷ negsuc 0 ∷ negsuc 0 ∷ negsuc 0 ∷ []) ∷
    (pos 4 ∷ pos 11 ∷ pos 8 ∷ pos 4 ∷ pos 6 ∷ pos 11 ∷ pos 0 ∷ pos 2 ∷ pos 9 ∷ pos 2 ∷ pos 10 ∷ pos 9 ∷ negsuc 0 ∷ negsuc 0 ∷ negsuc 0 ∷ negsuc 0 ∷ []) ∷
    (pos 10 ∷ pos 9 ∷ pos 3 ∷ pos 10 ∷ pos 3 ∷ pos 2 ∷ pos 9 ∷ pos 4 ∷ pos 3 ∷ pos 11 ∷ pos 3 ∷ pos 6 ∷ pos 4 ∷ pos 6 ∷ pos 3 ∷ negsuc 0 ∷ []) ∷
    (pos 8 ∷ pos 2 ∷ pos 3 ∷ pos 8 ∷ pos 4 ∷ pos 2 ∷ pos 4 ∷ pos 6 ∷ pos 2 ∷ negsuc 0 ∷ negsuc 0 ∷ negsuc 0 ∷ negsuc 0 ∷ negsuc 0 ∷ negsuc 0 ∷ negsuc 0 ∷ []) ∷
    (pos 0 ∷ pos 4 ∷ pos 2 ∷ pos 4 ∷ pos 6 ∷ pos 2 ∷ negsuc 0 ∷ negsuc 0 ∷ negsuc 0 ∷ negsuc 0 ∷ negsuc 0 ∷ negsuc 0 ∷ negsuc 0 ∷ negsuc 0 ∷ negsuc 0 ∷ negsuc 0 ∷ []) ∷
    (pos 1 ∷ pos 9 ∷ pos 0 ∷ pos 2 ∷ pos 3 ∷ pos 4 ∷ pos 2 ∷ pos 4 ∷ pos 6 ∷ pos 4 ∷ pos 3 ∷ pos 8 ∷ negsuc 0 ∷ negsuc 0 ∷ negsuc 0 ∷ negsuc 0 ∷ []) ∷
    (pos 1 ∷ pos 9 ∷ pos 4 ∷ pos 1 ∷ pos 4 ∷ pos 2 ∷ pos 2 ∷ pos 4 ∷ pos 6 ∷ negsuc 0 ∷ negsuc 0 ∷ negsuc 0 ∷ negsuc 0 ∷ negsuc 0 ∷ negsuc 0 ∷ negsuc 0 ∷ []) ∷
    (pos 8 ∷ pos 1 ∷ pos 3 ∷ pos 8 ∷ pos 6 ∷ pos 1 ∷ pos 8 ∷ pos 4 ∷ pos 6 ∷ pos 6 ∷ pos 10 ∷ pos 1 ∷ negsuc 0 ∷ negsuc 0 ∷ negsuc 0 ∷ negsuc 0 ∷ []) ∷
    (pos 10 ∷ pos 1 ∷ pos 0 ∷ pos 10 ∷ pos 0 ∷ pos 6 ∷ pos 6 ∷ pos 0 ∷ pos 4 ∷ negsuc 0 ∷ negsuc 0 ∷ negsuc 0 ∷ negsuc 0 ∷ negsuc 0 ∷ negsuc 0 ∷ negsuc 0 ∷ []) ∷
    (pos 4 ∷ pos 6 ∷ pos 3 ∷ pos 4 ∷ pos 3 ∷ pos 8 ∷ pos 6 ∷ pos 10 ∷ pos 3 ∷ pos 0 ∷ pos 3 ∷ pos 9 ∷ pos 10 ∷ pos 9 ∷ pos 3 ∷ negsuc 0 ∷ []) ∷
    (pos 10 ∷ pos 9 ∷ pos 4 ∷ pos 6 ∷ pos 10 ∷ pos 4 ∷ negsuc 0 ∷ negsuc 0 ∷ negsuc 0 ∷ negsuc 0 ∷ negsuc 0 ∷ negsuc 0 ∷ negsuc 0 ∷ negsuc 0 ∷ negsuc 0 ∷ negsuc 0 ∷ []) ∷
    (pos 4 ∷ pos 9 ∷ pos 5 ∷ pos 7 ∷ pos 6 ∷ pos 11 ∷ negsuc 0 ∷ negsuc 0 ∷ negsuc 0 ∷ negsuc 0 ∷ negsuc 0 ∷ negsuc 0 ∷ negsuc 0 ∷ negsuc 0 ∷ negsuc 0 ∷ negsuc 0 ∷ []) ∷
    (pos 0 ∷ pos 8 ∷ pos 3 ∷ pos 4 ∷ pos 9 ∷ pos 5 ∷ pos 11 ∷ pos 7 ∷ pos 6 ∷ negsuc 0 ∷ negsuc 0 ∷ negsuc 0 ∷ negsuc 0 ∷ negsuc 0 ∷ negsuc 0 ∷ negsuc 0 ∷ []) ∷
    (pos 5 ∷ pos 0 ∷ pos 1 ∷ pos 5 ∷ pos 4 ∷ pos 0 ∷ pos 7 ∷ pos 6 ∷ pos 11 ∷ negsuc 0 ∷ negsuc 0 ∷ negsuc 0 ∷ negsuc 0 ∷ negsuc 0 ∷ negsuc 0 ∷ negsuc 0 ∷ []) ∷
    (pos 11 ∷ pos 7 ∷ pos 6 ∷ pos 8 ∷ pos 3 ∷ pos 4 ∷ pos 3 ∷ pos 5 ∷ pos 4 ∷ pos 3 ∷ pos 1 ∷ pos 5 ∷ negsuc 0 ∷ negsuc 0 ∷ negsuc 0 ∷ negsuc 0 ∷ []) ∷
    (pos 9 ∷ pos 5 ∷ pos 4 ∷ pos 10 ∷ pos 1 ∷ pos 2 ∷ pos 7 ∷ pos 6 ∷ pos 11 ∷ negsuc 0 ∷ negsuc 0 ∷ negsuc 0 ∷ negsuc 0 ∷ negsuc 0 ∷ negsuc 0 ∷ negsuc 0 ∷ []) ∷
    (pos 6 ∷ pos 11 ∷ pos 7 ∷ pos 1 ∷ pos 2 ∷ pos 10 ∷ pos 0 ∷ pos 8 ∷ pos 3 ∷ pos 4 ∷ pos 9 ∷ pos 5 ∷ negsuc 0 ∷ negsuc 0 ∷ negsuc 0 ∷ negsuc 0 ∷ []) ∷
    (pos 7 ∷ pos 6 ∷ pos 11 ∷ pos 5 ∷ pos 4 ∷ pos 10 ∷ pos 4 ∷ pos 2 ∷ pos 10 ∷ pos 4 ∷ pos 0 ∷ pos 2 ∷ negsuc 0 ∷ negsuc 0 ∷ negsuc 0 ∷ negsuc 0 ∷ []) ∷
    (pos 3 ∷ pos 4 ∷ pos 8 ∷ pos 3 ∷ pos 5 ∷ pos 4 ∷ pos 3 ∷ pos 2 ∷ pos 5 ∷ pos 10 ∷ pos 5 ∷ pos 2 ∷ pos 11 ∷ pos 7 ∷ pos 6 ∷ negsuc 0 ∷ []) ∷
    (pos 7 ∷ pos 2 ∷ pos 3 ∷ pos 7 ∷ pos 6 ∷ pos 2 ∷ pos 5 ∷ pos 4 ∷ pos 9 ∷ negsuc 0 ∷ negsuc 0 ∷ negsuc 0 ∷ negsuc 0 ∷ negsuc 0 ∷ negsuc 0 ∷ negsuc 0 ∷ []) ∷
    (pos 9 ∷ pos 5 ∷ pos 4 ∷ pos 0 ∷ pos 8 ∷ pos 6 ∷ pos 0 ∷ pos 6 ∷ pos 2 ∷ pos 6 ∷ pos 8 ∷ pos 7 ∷ negsuc 0 ∷ negsuc 0 ∷ negsuc 0 ∷ negsuc 0 ∷ []) ∷
    (pos 3 ∷ pos 6 ∷ pos 2 ∷ pos 3 ∷ pos 7 ∷ pos 6 ∷ pos 1 ∷ pos 5 ∷ pos 0 ∷ pos 5 ∷ pos 4 ∷ pos 0 ∷ negsuc 0 ∷ negsuc 0 ∷ negsuc 0 ∷ negsuc 0 ∷ []) ∷
    (pos 6 ∷ pos 2 ∷ pos 8 ∷ pos 6 ∷ pos 8 ∷ pos 7 ∷ pos 2 ∷ pos 1 ∷ pos 8 ∷ pos 4 ∷ pos 8 ∷ pos 5 ∷ pos 1 ∷ pos 5 ∷ pos 8 ∷ negsuc 0 ∷ []) ∷
    (pos 9 ∷ pos 5 ∷ pos 4 ∷ pos 10 ∷ pos 1 ∷ pos 6 ∷ pos 1 ∷ pos 7 ∷ pos 6 ∷ pos 1 ∷ pos 3 ∷ pos 7 ∷ negsuc 0 ∷ negsuc 0 ∷ negsuc 0 ∷ negsuc 0 ∷ []) ∷
    (pos 1 ∷ pos 6 ∷ pos 10 ∷ pos 1 ∷ pos 7 ∷ pos 6 ∷ pos 1 ∷ pos 0 ∷ pos 7 ∷ pos 8 ∷ pos 7 ∷ pos 0 ∷ pos 9 ∷ pos 5 ∷ pos 4 ∷ negsuc 0 ∷ []) ∷
    (pos 4 ∷ pos 0 ∷ pos 10 ∷ pos 4 ∷ pos 10 ∷ pos 5 ∷ pos 0 ∷ pos 3 ∷ pos 10 ∷ pos 6 ∷ pos 10 ∷ pos 7 ∷ pos 3 ∷ pos 7 ∷ pos 10 ∷ negsuc 0 ∷ []) ∷
    (pos 7 ∷ pos 6 ∷ pos 10 ∷ pos 7 ∷ pos 10 ∷ pos 8 ∷ pos 5 ∷ pos 4 ∷ pos 10 ∷ pos 4 ∷ pos 8 ∷ pos 10 ∷ negsuc 0 ∷ negsuc 0 ∷ negsuc 0 ∷ negsuc 0 ∷ []) ∷
    (pos 6 ∷ pos 9 ∷ pos 5 ∷ pos 6 ∷ pos 11 ∷ pos 9 ∷ pos 11 ∷ pos 8 ∷ pos 9 ∷ negsuc 0 ∷ negsuc 0 ∷ negsuc 0 ∷ negsuc 0 ∷ negsuc 0 ∷ negsuc 0 ∷ negsuc 0 ∷ []) ∷
    (pos 3 ∷ pos 6 ∷ pos 11 ∷ pos 0 ∷ pos 6 ∷ pos 3 ∷ pos 0 ∷ pos 5 ∷ pos 6 ∷ pos 0 ∷ pos 9 ∷ pos 5 ∷ negsuc 0 ∷ negsuc 0 ∷ negsuc 0 ∷ negsuc 0 ∷ []) ∷
    (pos 0 ∷ pos 11 ∷ pos 8 ∷ pos 0 ∷ pos 5 ∷ pos 11 ∷ pos 0 ∷ pos 1 ∷ pos 5 ∷ pos 5 ∷ pos 6 ∷ pos 11 ∷ negsuc 0 ∷ negsuc 0 ∷ negsuc 0 ∷ negsuc 0 ∷ []) ∷
    (pos 6 ∷ pos 11 ∷ pos 3 ∷ pos 6 ∷ pos 3 ∷ pos 5 ∷ pos 5 ∷ pos 3 ∷ pos 1 ∷ negsuc 0 ∷ negsuc 0 ∷ negsuc 0 ∷ negsuc 0 ∷ negsuc 0 ∷ negsuc 0 ∷ negsuc 0 ∷ []) ∷
    (pos 1 ∷ pos 2 ∷ pos 10 ∷ pos 9 ∷ pos 5 ∷ pos 11 ∷ pos 9 ∷ pos 11 ∷ pos 8 ∷ pos 11 ∷ pos 5 ∷ pos 6 ∷ negsuc 0 ∷ negsuc 0 ∷ negsuc 0 ∷ negsuc 0 ∷ []) ∷
    (pos 0 ∷ pos 11 ∷ pos 3 ∷ pos 0 ∷ pos 6 ∷ pos 11 ∷ pos 0 ∷ pos 9 ∷ pos 6 ∷ pos 5 ∷ pos 6 ∷ pos 9 ∷ pos 1 ∷ pos 2 ∷ pos 10 ∷ negsuc 0 ∷ []) ∷
    (pos 11 ∷ pos 8 ∷ pos 5 ∷ pos 11 ∷ pos 5 ∷ pos 6 ∷ pos 8 ∷ pos 0 ∷ pos 5 ∷ pos 10 ∷ pos 5 ∷ pos 2 ∷ pos 0 ∷ pos 2 ∷ pos 5 ∷ negsuc 0 ∷ []) ∷
    (pos 6 ∷ pos 11 ∷ pos 3 ∷ pos 6 ∷ pos 3 ∷ pos 5 ∷ pos 2 ∷ pos 10 ∷ pos 3 ∷ pos 10 ∷ pos 5 ∷ pos 3 ∷ negsuc 0 ∷ negsuc 0 ∷ negsuc 0 ∷ negsuc 0 ∷ []) ∷
    (pos 5 ∷ pos 8 ∷ pos 9 ∷ pos 5 ∷ pos 2 ∷ pos 8 ∷ pos 5 ∷ pos 6 ∷ pos 2 ∷ pos 3 ∷ pos 8 ∷ pos 2 ∷ negsuc 0 ∷ negsuc 0 ∷ negsuc 0 ∷ negsuc 0 ∷ []) ∷
    (pos 9 ∷ pos 5 ∷ pos 6 ∷ pos 9 ∷ pos 6 ∷ pos 0 ∷ pos 0 ∷ pos 6 ∷ pos 2 ∷ negsuc 0 ∷ negsuc 0 ∷ negsuc 0 ∷ negsuc 0 ∷ negsuc 0 ∷ negsuc 0 ∷ negsuc 0 ∷ []) ∷
    (pos 1 ∷ pos 5 ∷ pos 8 ∷ pos 1 ∷ pos 8 ∷ pos 0 ∷ pos 5 ∷ pos 6 ∷ pos 8 ∷ pos 3 ∷ pos 8 ∷ pos 2 ∷ pos 6 ∷ pos 2 ∷ pos 8 ∷ negsuc 0 ∷ []) ∷
    (pos 1 ∷ pos 5 ∷ pos 6 ∷ pos 2 ∷ pos 1 ∷ pos 6 ∷ negsuc 0 ∷ negsuc 0 ∷ negsuc 0 ∷ negsuc 0 ∷ negsuc 0 ∷ negsuc 0 ∷ negsuc 0 ∷ negsuc 0 ∷ negsuc 0 ∷ negsuc 0 ∷ []) ∷
    (pos 1 ∷ pos 3 ∷ pos 6 ∷ pos 1 ∷ pos 6 ∷ pos 10 ∷ pos 3 ∷ pos 8 ∷ pos 6 ∷ pos 5 ∷ pos 6 ∷ pos 9 ∷ pos 8 ∷ pos 9 ∷ pos 6 ∷ negsuc 0 ∷ []) ∷
    (pos 10 ∷ pos 1 ∷ pos 0 ∷ pos 10 ∷ pos 0 ∷ pos 6 ∷ pos 9 ∷ pos 5 ∷ pos 0 ∷ pos 5 ∷ pos 6 ∷ pos 0 ∷ negsuc 0 ∷ negsuc 0 ∷ negsuc 0 ∷ negsuc 0 ∷ []) ∷
    (pos 0 ∷ pos 3 ∷ pos 8 ∷ pos 5 ∷ pos 6 ∷ pos 10 ∷ negsuc 0 ∷ negsuc 0 ∷ negsuc 0 ∷ negsuc 0 ∷ negsuc 0 ∷ negsuc 0 ∷ negsuc 0 ∷ negsuc 0 ∷ negsuc 0 ∷ negsuc 0 ∷ []) ∷
    (pos 10 ∷ pos 5 ∷ pos 6 ∷ negsuc 0 ∷ negsuc 0 ∷ negsuc 0 ∷ negsuc 0 ∷ negsuc 0 ∷ negsuc 0 ∷ negsuc 0 ∷ negsuc 0 ∷ negsuc 0 ∷ negsuc 0 ∷ negsuc 0 ∷ negsuc 0 ∷ negsuc 0 ∷ []) ∷
    (pos 11 ∷ pos 5 ∷ pos 10 ∷ pos 7 ∷ pos 5 ∷ pos 11 ∷ negsuc 0 ∷ negsuc 0 ∷ negsuc 0 ∷ negsuc 0 ∷ negsuc 0 ∷ negsuc 0 ∷ negsuc 0 ∷ negsuc 0 ∷ negsuc 0 ∷ negsuc 0 ∷ []) ∷
    (pos 11 ∷ pos 5 ∷ pos 10 ∷ pos 11 ∷ pos 7 ∷ pos 5 ∷ pos 8 ∷ pos 3 ∷ pos 0 ∷ negsuc 0 ∷ negsuc 0 ∷ negsuc 0 ∷ negsuc 0 ∷ negsuc 0 ∷ negsuc 0 ∷ negsuc 0 ∷ []) ∷
    (pos 5 ∷ pos 11 ∷ pos 7 ∷ pos 5 ∷ pos 10 ∷ pos 11 ∷ pos 1 ∷ pos 9 ∷ pos 0 ∷ negsuc 0 ∷ negsuc 0 ∷ negsuc 0 ∷ negsuc 0 ∷ negsuc 0 ∷ negsuc 0 ∷ negsuc 0 ∷ []) ∷
    (pos 10 ∷ pos 7 ∷ pos 5 ∷ pos 10 ∷ pos 11 ∷ pos 7 ∷ pos 9 ∷ pos 8 ∷ pos 1 ∷ pos 8 ∷ pos 3 ∷ pos 1 ∷ negsuc 0 ∷ negsuc 0 ∷ negsuc 0 ∷ negsuc 0 ∷ []) ∷
    (pos 11 ∷ pos 1 ∷ pos 2 ∷ pos 11 ∷ pos 7 ∷ pos 1 ∷ pos 7 ∷ pos 5 ∷ pos 1 ∷ negsuc 0 ∷ negsuc 0 ∷ negsuc 0 ∷ negsuc 0 ∷ negsuc 0 ∷ negsuc 0 ∷ negsuc 0 ∷ []) ∷
    (pos 0 ∷ pos 8 ∷ pos 3 ∷ pos 1 ∷ pos 2 ∷ pos 7 ∷ pos 1 ∷ pos 7 ∷ pos 5 ∷ pos 7 ∷ pos 2 ∷ pos 11 ∷ negsuc 0 ∷ negsuc 0 ∷ negsuc 0 ∷ negsuc 0 ∷ []) ∷
    (pos 9 ∷ pos 7 ∷ pos 5 ∷ pos 9 ∷ pos 2 ∷ pos 7 ∷ pos 9 ∷ pos 0 ∷ pos 2 ∷ pos 2 ∷ pos 11 ∷ pos 7 ∷ negsuc 0 ∷ negsuc 0 ∷ negsuc 0 ∷ negsuc 0 ∷ []) ∷
    (pos 7 ∷ pos 5 ∷ pos 2 ∷ pos 7 ∷ pos 2 ∷ pos 11 ∷ pos 5 ∷ pos 9 ∷ pos 2 ∷ pos 3 ∷ pos 2 ∷ pos 8 ∷ pos 9 ∷ pos 8 ∷ pos 2 ∷ negsuc 0 ∷ []) ∷
    (pos 2 ∷ pos 5 ∷ pos 10 ∷ pos 2 ∷ pos 3 ∷ pos 5 ∷ pos 3 ∷ pos 7 ∷ pos 5 ∷ negsuc 0 ∷ negsuc 0 ∷ negsuc 0 ∷ negsuc 0 ∷ negsuc 0 ∷ negsuc 0 ∷ negsuc 0 ∷ []) ∷
    (pos 8 ∷ pos 2 ∷ pos 0 ∷ pos 8 ∷ pos 5 ∷ pos 2 ∷ pos 8 ∷ pos 7 ∷ pos 5 ∷ pos 10 ∷ pos 2 ∷ pos 5 ∷ negsuc 0 ∷ negsuc 0 ∷ negsuc 0 ∷ negsuc 0 ∷ []) ∷
    (pos 9 ∷ pos 0 ∷ pos 1 ∷ pos 5 ∷ pos 10 ∷ pos 3 ∷ pos 5 ∷ pos 3 ∷ pos 7 ∷ pos 3 ∷ pos 10 ∷ pos 2 ∷ negsuc 0 ∷ negsuc 0 ∷ negsuc 0 ∷ negsuc 0 ∷ []) ∷
    (pos 9 ∷ pos 8 ∷ pos 2 ∷ pos 9 ∷ pos 2 ∷ pos 1 ∷ pos 8 ∷ pos 7 ∷ pos 2 ∷ pos 10 ∷ pos 2 ∷ pos 5 ∷ pos 7 ∷ pos 5 ∷ pos 2 ∷ negsuc 0 ∷ []) ∷
    (pos 1 ∷ pos 3 ∷ pos 5 ∷ pos 3 ∷ pos 7 ∷ pos 5 ∷ negsuc 0 ∷ negsuc 0 ∷ negsuc 0 ∷ negsuc 0 ∷ negsuc 0 ∷ negsuc 0 ∷ negsuc 0 ∷ negsuc 0 ∷ negsuc 0 ∷ negsuc 0 ∷ []) ∷
    (pos 0 ∷ pos 8 ∷ pos 7 ∷ pos 0 ∷ pos 7 ∷ pos 1 ∷ pos 1 ∷ pos 7 ∷ pos 5 ∷ negsuc 0 ∷ negsuc 0 ∷ negsuc 0 ∷ negsuc 0 ∷ negsuc 0 ∷ negsuc 0 ∷ negsuc 0 ∷ []) ∷
    (pos 9 ∷ pos 0 ∷ pos 3 ∷ pos 9 ∷ pos 3 ∷ pos 5 ∷ pos 5 ∷ pos 3 ∷ pos 7 ∷ negsuc 0 ∷ negsuc 0 ∷ negsuc 0 ∷ negsuc 0 ∷ negsuc 0 ∷ negsuc 0 ∷ negsuc 0 ∷ []) ∷
    (pos 9 ∷ pos 8 ∷ pos 7 ∷ pos 5 ∷ pos 9 ∷ pos 7 ∷ negsuc 0 ∷ negsuc 0 ∷ negsuc 0 ∷ negsuc 0 ∷ negsuc 0 ∷ negsuc 0 ∷ negsuc 0 ∷ negsuc 0 ∷ negsuc 0 ∷ negsuc 0 ∷ []) ∷
    (pos 5 ∷ pos 8 ∷ pos 4 ∷ pos 5 ∷ pos 10 ∷ pos 8 ∷ pos 10 ∷ pos 11 ∷ pos 8 ∷ negsuc 0 ∷ negsuc 0 ∷ negsuc 0 ∷ negsuc 0 ∷ negsuc 0 ∷ negsuc 0 ∷ negsuc 0 ∷ []) ∷
    (pos 5 ∷ pos 0 ∷ pos 4 ∷ pos 5 ∷ pos 11 ∷ pos 0 ∷ pos 5 ∷ pos 10 ∷ pos 11 ∷ pos 11 ∷ pos 3 ∷ pos 0 ∷ negsuc 0 ∷ negsuc 0 ∷ negsuc 0 ∷ negsuc 0 ∷ []) ∷
    (pos 0 ∷ pos 1 ∷ pos 9 ∷ pos 8 ∷ pos 4 ∷ pos 10 ∷ pos 8 ∷ pos 10 ∷ pos 11 ∷ pos 10 ∷ pos 4 ∷ pos 5 ∷ negsuc 0 ∷ negsuc 0 ∷ negsuc 0 ∷ negsuc 0 ∷ []) ∷
    (pos 10 ∷ pos 11 ∷ pos 4 ∷ pos 10 ∷ pos 4 ∷ pos 5 ∷ pos 11 ∷ pos 3 ∷ pos 4 ∷ pos 9 ∷ pos 4 ∷ pos 1 ∷ pos 3 ∷ pos 1 ∷ pos 4 ∷ negsuc 0 ∷ []) ∷
    (pos 2 ∷ pos 5 ∷ pos 1 ∷ pos 2 ∷ pos 8 ∷ pos 5 ∷ pos 2 ∷ pos 11 ∷ pos 8 ∷ pos 4 ∷ pos 5 ∷ pos 8 ∷ negsuc 0 ∷ negsuc 0 ∷ negsuc 0 ∷ negsuc 0 ∷ []) ∷
    (pos 0 ∷ pos 4 ∷ pos 11 ∷ pos 0 ∷ pos 11 ∷ pos 3 ∷ pos 4 ∷ pos 5 ∷ pos 11 ∷ pos 2 ∷ pos 11 ∷ pos 1 ∷ pos 5 ∷ pos 1 ∷ pos 11 ∷ negsuc 0 ∷ []) ∷
    (pos 0 ∷ pos 2 ∷ pos 5 ∷ pos 0 ∷ pos 5 ∷ pos 9 ∷ pos 2 ∷ pos 11 ∷ pos 5 ∷ pos 4 ∷ pos 5 ∷ pos 8 ∷ pos 11 ∷ pos 8 ∷ pos 5 ∷ negsuc 0 ∷ []) ∷
    (pos 9 ∷ pos 4 ∷ pos 5 ∷ pos 2 ∷ pos 11 ∷ pos 3 ∷ negsuc 0 ∷ negsuc 0 ∷ negsuc 0 ∷ negsuc 0 ∷ negsuc 0 ∷ negsuc 0 ∷ negsuc 0 ∷ negsuc 0 ∷ negsuc 0 ∷ negsuc 0 ∷ []) ∷
    (pos 2 ∷ pos 5 ∷ pos 10 ∷ pos 3 ∷ pos 5 ∷ pos 2 ∷ pos 3 ∷ pos 4 ∷ pos 5 ∷ pos 3 ∷ pos 8 ∷ pos 4 ∷ negsuc 0 ∷ negsuc 0 ∷ negsuc 0 ∷ negsuc 0 ∷ []) ∷
    (pos 5 ∷ pos 10 ∷ pos 2 ∷ pos 5 ∷ pos 2 ∷ pos 4 ∷ pos 4 ∷ pos 2 ∷ pos 0 ∷ negsuc 0 ∷ negsuc 0 ∷ negsuc 0 ∷ negsuc 0 ∷ negsuc 0 ∷ negsuc 0 ∷ negsuc 0 ∷ []) ∷
    (pos 3 ∷ pos 10 ∷ pos 2 ∷ pos 3 ∷ pos 5 ∷ pos 10 ∷ pos 3 ∷ pos 8 ∷ pos 5 ∷ pos 4 ∷ pos 5 ∷ pos 8 ∷ pos 0 ∷ pos 1 ∷ pos 9 ∷ negsuc 0 ∷ []) ∷
    (pos 5 ∷ pos 10 ∷ pos 2 ∷ pos 5 ∷ pos 2 ∷ pos 4 ∷ pos 1 ∷ pos 9 ∷ pos 2 ∷ pos 9 ∷ pos 4 ∷ pos 2 ∷ negsuc 0 ∷ negsuc 0 ∷ negsuc 0 ∷ negsuc 0 ∷ []) ∷
    (pos 8 ∷ pos 4 ∷ pos 5 ∷ pos 8 ∷ pos 5 ∷ pos 3 ∷ pos 3 ∷ pos 5 ∷ pos 1 ∷ negsuc 0 ∷ negsuc 0 ∷ negsuc 0 ∷ negsuc 0 ∷ negsuc 0 ∷ negsuc 0 ∷ negsuc 0 ∷ []) ∷
    (pos 0 ∷ pos 4 ∷ pos 5 ∷ pos 1 ∷ pos 0 ∷ pos 5 ∷ negsuc 0 ∷ negsuc 0 ∷ negsuc 0 ∷ negsuc 0 ∷ negsuc 0 ∷ negsuc 0 ∷ negsuc 0 ∷ negsuc 0 ∷ negsuc 0 ∷ negsuc 0 ∷ []) ∷
    (pos 8 ∷ pos 4 ∷ pos 5 ∷ pos 8 ∷ pos 5 ∷ pos 3 ∷ pos 9 ∷ pos 0 ∷ pos 5 ∷ pos 0 ∷ pos 3 ∷ pos 5 ∷ negsuc 0 ∷ negsuc 0 ∷ negsuc 0 ∷ negsuc 0 ∷ []) ∷
    (pos 9 ∷ pos 4 ∷ pos 5 ∷ negsuc 0 ∷ negsuc 0 ∷ negsuc 0 ∷ negsuc 0 ∷ negsuc 0 ∷ negsuc 0 ∷ negsuc 0 ∷ negsuc 0 ∷ negsuc 0 ∷ negsuc 0 ∷ negsuc 0 ∷ negsuc 0 ∷ negsuc 0 ∷ []) ∷
    (pos 4 ∷ pos 11 ∷ pos 7 ∷ pos 4 ∷ pos 9 ∷ pos 11 ∷ pos 9 ∷ pos 10 ∷ pos 11 ∷ negsuc 0 ∷ negsuc 0 ∷ negsuc 0 ∷ negsuc 0 ∷ negsuc 0 ∷ negsuc 0 ∷ negsuc 0 ∷ []) ∷
    (pos 0 ∷ pos 8 ∷ pos 3 ∷ pos 4 ∷ pos 9 ∷ pos 7 ∷ pos 9 ∷ pos 11 ∷ pos 7 ∷ pos 9 ∷ pos 10 ∷ pos 11 ∷ negsuc 0 ∷ negsuc 0 ∷ negsuc 0 ∷ negsuc 0 ∷ []) ∷
    (pos 1 ∷ pos 10 ∷ pos 11 ∷ pos 1 ∷ pos 11 ∷ pos 4 ∷ pos 1 ∷ pos 4 ∷ pos 0 ∷ pos 7 ∷ pos 4 ∷ pos 11 ∷ negsuc 0 ∷ negsuc 0 ∷ negsuc 0 ∷ negsuc 0 ∷ []) ∷
    (pos 3 ∷ pos 1 ∷ pos 4 ∷ pos 3 ∷ pos 4 ∷ pos 8 ∷ pos 1 ∷ pos 10 ∷ pos 4 ∷ pos 7 ∷ pos 4 ∷ pos 11 ∷ pos 10 ∷ pos 11 ∷ pos 4 ∷ negsuc 0 ∷ []) ∷
    (pos 4 ∷ pos 11 ∷ pos 7 ∷ pos 9 ∷ pos 11 ∷ pos 4 ∷ pos 9 ∷ pos 2 ∷ pos 11 ∷ pos 9 ∷ pos 1 ∷ pos 2 ∷ negsuc 0 ∷ negsuc 0 ∷ negsuc 0 ∷ negsuc 0 ∷ []) ∷
    (pos 9 ∷ pos 7 ∷ pos 4 ∷ pos 9 ∷ pos 11 ∷ pos 7 ∷ pos 9 ∷ pos 1 ∷ pos 11 ∷ pos 2 ∷ pos 11 ∷ pos 1 ∷ pos 0 ∷ pos 8 ∷ pos 3 ∷ negsuc 0 ∷ []) ∷
    (pos 11 ∷ pos 7 ∷ pos 4 ∷ pos 11 ∷ pos 4 ∷ pos 2 ∷ pos 2 ∷ pos 4 ∷ pos 0 ∷ negsuc 0 ∷ negsuc 0 ∷ negsuc 0 ∷ negsuc 0 ∷ negsuc 0 ∷ negsuc 0 ∷ negsuc 0 ∷ []) ∷
    (pos 11 ∷ pos 7 ∷ pos 4 ∷ pos 11 ∷ pos 4 ∷ pos 2 ∷ pos 8 ∷ pos 3 ∷ pos 4 ∷ pos 3 ∷ pos 2 ∷ pos 4 ∷ negsuc 0 ∷ negsuc 0 ∷ negsuc 0 ∷ negsuc 0 ∷ []) ∷
    (pos 2 ∷ pos 9 ∷ pos 10 ∷ pos 2 ∷ pos 7 ∷ pos 9 ∷ pos 2 ∷ pos 3 ∷ pos 7 ∷ pos 7 ∷ pos 4 ∷ pos 9 ∷ negsuc 0 ∷ negsuc 0 ∷ negsuc 0 ∷ negsuc 0 ∷ []) ∷
    (pos 9 ∷ pos 10 ∷ pos 7 ∷ pos 9 ∷ pos 7 ∷ pos 4 ∷ pos 10 ∷ pos 2 ∷ pos 7 ∷ pos 8 ∷ pos 7 ∷ pos 0 ∷ pos 2 ∷ pos 0 ∷ pos 7 ∷ negsuc 0 ∷ []) ∷
    (pos 3 ∷ pos 7 ∷ pos 10 ∷ pos 3 ∷ pos 10 ∷ pos 2 ∷ pos 7 ∷ pos 4 ∷ pos 10 ∷ pos 1 ∷ pos 10 ∷ pos 0 ∷ pos 4 ∷ pos 0 ∷ pos 10 ∷ negsuc 0 ∷ []) ∷
    (pos 1 ∷ pos 10 ∷ pos 2 ∷ pos 8 ∷ pos 7 ∷ pos 4 ∷ negsuc 0 ∷ negsuc 0 ∷ negsuc 0 ∷ negsuc 0 ∷ negsuc 0 ∷ negsuc 0 ∷ negsuc 0 ∷ negsuc 0 ∷ negsuc 0 ∷ negsuc 0 ∷ []) ∷
    (pos 4 ∷ pos 9 ∷ pos 1 ∷ pos 4 ∷ pos 1 ∷ pos 7 ∷ pos 7 ∷ pos 1 ∷ pos 3 ∷ negsuc 0 ∷ negsuc 0 ∷ negsuc 0 ∷ negsuc 0 ∷ negsuc 0 ∷ negsuc 0 ∷ negsuc 0 ∷ []) ∷
    (pos 4 ∷ pos 9 ∷ pos 1 ∷ pos 4 ∷ pos 1 ∷ pos 7 ∷ pos 0 ∷ pos 8 ∷ pos 1 ∷ pos 8 ∷ pos 7 ∷ pos 1 ∷ negsuc 0 ∷ negsuc 0 ∷ negsuc 0 ∷ negsuc 0 ∷ []) ∷
    (pos 4 ∷ pos 0 ∷ pos 3 ∷ pos 7 ∷ pos 4 ∷ pos 3 ∷ negsuc 0 ∷ negsuc 0 ∷ negsuc 0 ∷ negsuc 0 ∷ negsuc 0 ∷ negsuc 0 ∷ negsuc 0 ∷ negsuc 0 ∷ negsuc 0 ∷ negsuc 0 ∷ []) ∷
    (pos 4 ∷ pos 8 ∷ pos 7 ∷ negsuc 0 ∷ negsuc 0 ∷ negsuc 0 ∷ negsuc 0 ∷ negsuc 0 ∷ negsuc 0 ∷ negsuc 0 ∷ negsuc 0 ∷ negsuc 0 ∷ negsuc 0 ∷ negsuc 0 ∷ negsuc 0 ∷ negsuc 0 ∷ []) ∷
    (pos 9 ∷ pos 10 ∷ pos 8 ∷ pos 10 ∷ pos 11 ∷ pos 8 ∷ negsuc 0 ∷ negsuc 0 ∷ negsuc 0 ∷ negsuc 0 ∷ negsuc 0 ∷ negsuc 0 ∷ negsuc 0 ∷ negsuc 0 ∷ negsuc 0 ∷ negsuc 0 ∷ []) ∷
    (pos 3 ∷ pos 0 ∷ pos 9 ∷ pos 3 ∷ pos 9 ∷ pos 11 ∷ pos 11 ∷ pos 9 ∷ pos 10 ∷ negsuc 0 ∷ negsuc 0 ∷ negsuc 0 ∷ negsuc 0 ∷ negsuc 0 ∷ negsuc 0 ∷ negsuc 0 ∷ []) ∷
    (pos 0 ∷ pos 1 ∷ pos 10 ∷ pos 0 ∷ pos 10 ∷ pos 8 ∷ pos 8 ∷ pos 10 ∷ pos 11 ∷ negsuc 0 ∷ negsuc 0 ∷ negsuc 0 ∷ negsuc 0 ∷ negsuc 0 ∷ negsuc 0 ∷ negsuc 0 ∷ []) ∷
    (pos 3 ∷ pos 1 ∷ pos 10 ∷ pos 11 ∷ pos 3 ∷ pos 10 ∷ negsuc 0 ∷ negsuc 0 ∷ negsuc 0 ∷ negsuc 0 ∷ negsuc 0 ∷ negsuc 0 ∷ negsuc 0 ∷ negsuc 0 ∷ negsuc 0 ∷ negsuc 0 ∷ []) ∷
    (pos 1 ∷ pos 2 ∷ pos 11 ∷ pos 1 ∷ pos 11 ∷ pos 9 ∷ pos 9 ∷ pos 11 ∷ pos 8 ∷ negsuc 0 ∷ negsuc 0 ∷ negsuc 0 ∷ negsuc 0 ∷ negsuc 0 ∷ negsuc 0 ∷ negsuc 0 ∷ []) ∷
    (pos 3 ∷ pos 0 ∷ pos 9 ∷ pos 3 ∷ pos 9 ∷ pos 11 ∷ pos 1 ∷ pos 2 ∷ pos 9 ∷ pos 2 ∷ pos 11 ∷ pos 9 ∷ negsuc 0 ∷ negsuc 0 ∷ negsuc 0 ∷ negsuc 0 ∷ []) ∷
    (pos 0 ∷ pos 2 ∷ pos 11 ∷ pos 8 ∷ pos 0 ∷ pos 11 ∷ negsuc 0 ∷ negsuc 0 ∷ negsuc 0 ∷ negsuc 0 ∷ negsuc 0 ∷ negsuc 0 ∷ negsuc 0 ∷ negsuc 0 ∷ negsuc 0 ∷ negsuc 0 ∷ []) ∷
    (pos 3 ∷ pos 2 ∷ pos 11 ∷ negsuc 0 ∷ negsuc 0 ∷ negsuc 0 ∷ negsuc 0 ∷ negsuc 0 ∷ negsuc 0 ∷ negsuc 0 ∷ negsuc 0 ∷ negsuc 0 ∷ negsuc 0 ∷ negsuc 0 ∷ negsuc 0 ∷ negsuc 0 ∷ []) ∷
    (pos 2 ∷ pos 3 ∷ pos 8 ∷ pos 2 ∷ pos 8 ∷ pos 10 ∷ pos 10 ∷ pos 8 ∷ pos 9 ∷ negsuc 0 ∷ negsuc 0 ∷ negsuc 0 ∷ negsuc 0 ∷ negsuc 0 ∷ negsuc 0 ∷ negsuc 0 ∷ []) ∷
    (pos 9 ∷ pos 10 ∷ pos 2 ∷ pos 0 ∷ pos 9 ∷ pos 2 ∷ negsuc 0 ∷ negsuc 0 ∷ negsuc 0 ∷ negsuc 0 ∷ negsuc 0 ∷ negsuc 0 ∷ negsuc 0 ∷ negsuc 0 ∷ negsuc 0 ∷ negsuc 0 ∷ []) ∷
    (pos 2 ∷ pos 3 ∷ pos 8 ∷ pos 2 ∷ pos 8 ∷ pos 10 ∷ pos 0 ∷ pos 1 ∷ pos 8 ∷ pos 1 ∷ pos 10 ∷ pos 8 ∷ negsuc 0 ∷ negsuc 0 ∷ negsuc 0 ∷ negsuc 0 ∷ []) ∷
    (pos 1 ∷ pos 10 ∷ pos 2 ∷ negsuc 0 ∷ negsuc 0 ∷ negsuc 0 ∷ negsuc 0 ∷ negsuc 0 ∷ negsuc 0 ∷ negsuc 0 ∷ negsuc 0 ∷ negsuc 0 ∷ negsuc 0 ∷ negsuc 0 ∷ negsuc 0 ∷ negsuc 0 ∷ []) ∷
    (pos 1 ∷ pos 3 ∷ pos 8 ∷ pos 9 ∷ pos 1 ∷ pos 8 ∷ negsuc 0 ∷ negsuc 0 ∷ negsuc 0 ∷ negsuc 0 ∷ negsuc 0 ∷ negsuc 0 ∷ negsuc 0 ∷ negsuc 0 ∷ negsuc 0 ∷ negsuc 0 ∷ []) ∷
    (pos 0 ∷ pos 9 ∷ pos 1 ∷ negsuc 0 ∷ negsuc 0 ∷ negsuc 0 ∷ negsuc 0 ∷ negsuc 0 ∷ negsuc 0 ∷ negsuc 0 ∷ negsuc 0 ∷ negsuc 0 ∷ negsuc 0 ∷ negsuc 0 ∷ negsuc 0 ∷ negsuc 0 ∷ []) ∷
    (pos 0 ∷ pos 3 ∷ pos 8 ∷ negsuc 0 ∷ negsuc 0 ∷ negsuc 0 ∷ negsuc 0 ∷ negsuc 0 ∷ negsuc 0 ∷ negsuc 0 ∷ negsuc 0 ∷ negsuc 0 ∷ negsuc 0 ∷ negsuc 0 ∷ negsuc 0 ∷ negsuc 0 ∷ []) ∷
    (negsuc 0 ∷ negsuc 0 ∷ negsuc 0 ∷ negsuc 0 ∷ negsuc 0 ∷ negsuc 0 ∷ negsuc 0 ∷ negsuc 0 ∷ negsuc 0 ∷ negsuc 0 ∷ negsuc 0 ∷ negsuc 0 ∷ negsuc 0 ∷ negsuc 0 ∷ negsuc 0 ∷ negsuc 0 ∷ []) ∷
    []

-- the offset, 0 or 1, of a corner along an axis
abbrev pub corner_offset : ℕ → ℕ → ℕ
corner_offset c axis = get_or (get_or corners c []) axis 0

-- the corner at an end, 0 or 1, of the edge e
abbrev pub edge_end : ℕ → ℕ → ℕ
edge_end e end = get_or (get_or edge_connection e []) end 0

-- the row of the sign byte s
abbrev pub row : ℕ → List ℤ
row s = get_or triangle_connection s []

-- the rows one after the other
abbrev pub flat : {A : Type 0} → List (List A) → List A
flat [] = []
flat (r ∷ rs) = r ++ flat rs

-- the triangle table as the code holds it: row s starts at 16 * s
unfoldable pub triangle_table : List ℤ
unfolding triangle_connection
triangle_table = flat triangle_connection
