-- Document 01's cases W1 to W11, as one claim over a list of inputs and expected answers. Of the whole call every buffer is held: working memory of 46
-- words that held 7, room for six vertices and seven indices.
use mathlib.Core.Path.{◌≡◌, refl}
use mathlib.Core.Bool.{true, false}
use mathlib.Core.List.{List, [], ◌∷◌, ◌++◌, map}
use Prim.Native.Nat.{ℕ, ◌-◌, ◌*◌}
use lib.Count.{count_leading_zeros}
use lib.IntN.{pos, negsuc}
use lib.ListN.{length, replicate, set}
use lib.Ieee.{Float, nan, fin, binary32, of_bits, le, eq, neg, add, sub, mul, div, of_int}
use Rattle.marching_cubes_tables.specs.Tables.{corners, edge_connection, triangle_connection}
use Rattle.marching_cubes_tables.specs.Rule.{row_edges}
use Rattle.marching_cubes_impl.specs.Sample.{nought, half, one, inside, good}
use Rattle.marching_cubes_impl.specs.declared.Cell.{Cell}
use Rattle.marching_cubes_impl.specs.declared.edge.Crossing.{Crossing}
use Rattle.marching_cubes_impl.specs.declared.edge.Crossing.TheVariants.{At}
use Rattle.marching_cubes_impl.specs.Cell.{cell_of}
use Rattle.marching_cubes_impl.specs.Edge.{offset_of, crosses, crossing_of}
use Rattle.marching_cubes_impl.specs.Vertex.{between}
use Rattle.std.specs.Prelude.{Result, Ok}
use Rattle.morton.specs.declared.BadKey.{BadKey}
use Rattle.morton_cells.specs.declared.Vec3.{Vec3}
use Rattle.morton.specs.Key.{top_bit, good as good_key, level_in}
use Rattle.morton_sums.specs.Interleaved.{thirds, spread}
use Rattle.morton.specs.Answer.{level_of, parent_of}
use Rattle.morton_cells.specs.Cell.{center_of}
use Rattle.positions.specs.Position.{step_of, corner_of, position_of}
use Rattle.walk.specs.Walk.{signs, cell_edges, times, cell, cells, rows, walk}
use Rattle.walk.specs.Edges.{axis_of, low_offset, edge_of, same}
use Rattle.walk.specs.Cache.{fresh, stored, put_column, get_column, in_layer, put, found, get, advance_cell, advance_row, advance_layer}
use Rattle.walk.specs.Numbering.{choose, hooks, mesh, number, joined, crate}
use Rattle.lent_mesh.specs.Grid.{position_at, floats_of}
use Rattle.sample_check.specs.Samples.{lowest_bad}
use Rattle.outcome.specs.Outcome.{Outcome, surface_of, filled, outcome}

-- what is asked: of the whole call by size, numbering and samples, of one cell, of one edge, for the bare offset, or of a key
data Case : Type 0 where
  grid : ℕ → ℕ → List Float → Case
  one_cell : List Float → Case
  edge : Float → Float → Case
  offset : Float → Float → Case
  level parent center : ℕ → Case

data Answer : Type 0 where
  is_outcome : Outcome → Answer
  is_cell : Cell → Answer
  is_crossing : Crossing → Answer
  is_offset : Float → Answer
  is_number : Result ℕ BadKey → Answer
  is_point : Result Vec3 BadKey → Answer

abbrev old_work : List ℕ
old_work = replicate 46 7

abbrev old_vertices : List Float
old_vertices = replicate 18 half

abbrev old_indices : List ℕ
old_indices = replicate 7 9

abbrev answer : Case → Answer
answer (grid size numbering samples) = is_outcome (outcome size numbering samples old_work old_vertices old_indices)
answer (one_cell values) = is_cell (cell_of values)
answer (edge a b) = is_crossing (crossing_of a b)
answer (offset a b) = is_offset (offset_of a b)
answer (level key) = is_number (level_of key)
answer (parent key) = is_number (parent_of key)
answer (center key) = is_point (center_of key)

abbrev minus_one : Float
minus_one = fin true 1 (pos 0)

abbrev two : Float
two = fin false 1 (pos 1)

abbrev quarter : Float
quarter = fin false 1 (negsuc 1)

-- size 2, samples 1.0 but one
abbrev but : ℕ → ℕ → Float → Case
but numbering place v = grid 2 numbering (set (replicate 12 one) place v)

-- done: the first 3V floats and I indices, the rest as it was, the working memory that the size asks for zero
abbrev done : ℕ → List Float → List ℕ → Answer
done v floats list =
    is_outcome (record {
      answer = record { cause = 0; place = 0; vertices = v; indices = length list };
      work = replicate 44 0 ++ (7 ∷ 7 ∷ []);
      vertices = floats ++ replicate (18 - 3 * v) half;
      indices = list ++ replicate (7 - length list) 9;
    })

abbrev refused : ℕ → ℕ → Answer
refused cause place =
    is_outcome (record { answer = record { cause = cause; place = place; vertices = 0; indices = 0 }; work = old_work; vertices = old_vertices; indices = old_indices })

-- 1.5
abbrev one_and_half : Float
one_and_half = fin false 3 (negsuc 0)

-- the vertices of W3, and of W4 and W5
abbrev corner : List Float
corner = half ∷ nought ∷ nought ∷ nought ∷ nought ∷ half ∷ nought ∷ half ∷ nought ∷ []

abbrev waist : List Float
waist = half ∷ nought ∷ one ∷ nought ∷ half ∷ one ∷ nought ∷ nought ∷ half ∷ []

cases : map answer (
    -- W1
    grid 2 0 (replicate 12 one) ∷
    grid 2 1 (replicate 12 one) ∷
    -- W2
    grid 2 0 (replicate 12 minus_one) ∷
    grid 2 1 (replicate 12 minus_one) ∷
    -- W3
    but 0 0 minus_one ∷
    but 1 0 minus_one ∷
    -- W4, W5
    but 1 4 minus_one ∷
    but 0 4 minus_one ∷
    -- W6
    but 0 0 nought ∷
    but 1 0 nought ∷
    -- W7
    one_cell (replicate 8 nan) ∷
    -- W8
    edge minus_one (fin false 3 (pos 0)) ∷
    offset two two ∷
    -- W9
    level 8 ∷
    parent 8 ∷
    center 8 ∷
    -- W10
    grid 1 0 (replicate 12 one) ∷
    -- W11
    but 0 3 (of_bits binary32 0x7E80_0000) ∷
    but 0 3 (of_bits binary32 0x7E80_0001) ∷
    []) ≡
    done 0 [] [] ∷
    done 0 [] [] ∷
    done 0 [] [] ∷
    done 0 [] [] ∷
    done 3 corner (0 ∷ 1 ∷ 2 ∷ []) ∷
    done 3 corner (0 ∷ 1 ∷ 2 ∷ []) ∷
    done 4 (waist ++ (nought ∷ nought ∷ one_and_half ∷ [])) (0 ∷ 1 ∷ 2 ∷ 0 ∷ 3 ∷ 1 ∷ []) ∷
    done 5 (waist ++ (half ∷ nought ∷ one ∷ nought ∷ nought ∷ one_and_half ∷ [])) (0 ∷ 1 ∷ 2 ∷ 3 ∷ 4 ∷ 1 ∷ []) ∷
    done 3 (replicate 9 nought) (0 ∷ 1 ∷ 2 ∷ []) ∷
    done 3 (replicate 9 nought) (0 ∷ 1 ∷ 2 ∷ []) ∷
    is_cell (record { signs = 0; edges = replicate 16 (negsuc 0) }) ∷
    is_crossing (At quarter) ∷
    is_offset half ∷
    is_number (Ok 1) ∷
    is_number (Ok 1) ∷
    is_point (Ok (record { x = quarter; y = quarter; z = quarter })) ∷
    refused 1 0 ∷
    done 0 [] [] ∷
    refused 5 3 ∷
    []
unfolding crosses top_bit good_key level_in thirds spread count_leading_zeros outcome filled surface_of lowest_bad good inside le of_bits mesh walk rows cells cell times signs cell_edges row_edges triangle_connection corners edge_connection hooks choose joined crate number same edge_of axis_of low_offset fresh stored put_column get_column in_layer put found get advance_cell advance_row advance_layer position_at position_of floats_of step_of corner_of offset_of between eq neg add sub mul div of_int
cases = refl
