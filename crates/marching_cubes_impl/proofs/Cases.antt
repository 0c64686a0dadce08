-- Document 01's cases for one cell and one edge: W7, W8, W11 and the first cells of W2, W3 and W6, as one claim over a list.
use mathlib.Core.Path.{◌≡◌, refl}
use mathlib.Core.Bool.{true, false}
use mathlib.Core.List.{List, [], ◌∷◌, map}
use Prim.Native.Nat.{ℕ}
use lib.IntN.{pos, negsuc}
use lib.ListN.{replicate}
use lib.Ieee.{Float, nan, fin, binary32, of_bits, le, sub, neg, div, eq}
use Rattle.marching_cubes_tables.specs.Tables.{triangle_connection}
use Rattle.marching_cubes_tables.specs.Rule.{row_edges}
use Rattle.marching_cubes_impl.specs.declared.Cell.{Cell}
use Rattle.marching_cubes_impl.specs.declared.edge.Crossing.{Crossing}
use Rattle.marching_cubes_impl.specs.declared.edge.Crossing.TheVariants.{Absent, At, Refused}
use Rattle.marching_cubes_impl.specs.Sample.{nought, half, one, inside, good}
use Rattle.marching_cubes_impl.specs.Cell.{padded, cell_of}
use Rattle.marching_cubes_impl.specs.Edge.{offset_of, crosses, crossing_of}

-- what is asked: of a cell, of an edge, or for the bare offset
data Case : Type 0 where
  cell : List Float → Case
  edge : Float → Float → Case
  offset : Float → Float → Case

data Answer : Type 0 where
  is_cell : Cell → Answer
  is_crossing : Crossing → Answer
  is_offset : Float → Answer

abbrev answer : Case → Answer
answer (cell values) = is_cell (cell_of values)
answer (edge a b) = is_crossing (crossing_of a b)
answer (offset a b) = is_offset (offset_of a b)

abbrev minus_one : Float
minus_one = fin true 1 (pos 0)

abbrev two : Float
two = fin false 1 (pos 1)

-- the answer about a cell with these signs and edges
abbrev with_edges : ℕ → List ℕ → Answer
with_edges signs edges = is_cell (record { signs = signs; edges = padded 16 edges })

cases : map answer (
    -- W7: eight NaN corners
    cell (replicate 8 nan) ∷
    -- W2: all -1.0; W3: sample 0 is -1.0; W6: sample 0 is 0.0
    cell (replicate 8 minus_one) ∷
    cell (minus_one ∷ replicate 7 one) ∷
    cell (nought ∷ replicate 7 one) ∷
    -- W8: (-1, 3) and (2, 2)
    edge minus_one (fin false 3 (pos 0)) ∷
    offset two two ∷
    edge two two ∷
    -- W3 and W6: their edges from sample 0
    edge minus_one one ∷
    edge nought one ∷
    -- W11: the bits 7E800000 pass, 7E800001 do not
    edge (of_bits binary32 0x7E80_0000) two ∷
    edge (of_bits binary32 0x7E80_0001) two ∷
    -- the first bad end is named
    edge two nan ∷
    edge nan nan ∷
    []) ≡
    with_edges 0 [] ∷
    with_edges 255 [] ∷
    with_edges 1 (0 ∷ 8 ∷ 3 ∷ []) ∷
    with_edges 1 (0 ∷ 8 ∷ 3 ∷ []) ∷
    is_crossing (At (fin false 1 (negsuc 1))) ∷
    is_offset half ∷
    is_crossing Absent ∷
    is_crossing (At half) ∷
    is_crossing (At (fin true 0 (pos 0))) ∷
    is_crossing Absent ∷
    is_crossing (Refused 0) ∷
    is_crossing (Refused 1) ∷
    is_crossing (Refused 0) ∷
    []
unfolding le of_bits neg sub div eq inside good crosses offset_of row_edges triangle_connection
cases = refl
