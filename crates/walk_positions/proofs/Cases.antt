-- W1 to W6 of document 01 from their samples, as one claim over a list: the vertices of the mesh and its indices.
use mathlib.Core.Path.{◌≡◌, refl}
use mathlib.Core.Bool.{true, false, cond}
use mathlib.Core.List.{List, [], ◌∷◌, map}
use Prim.Native.Nat.{ℕ}
use lib.Dec.{eqb}
use lib.IntN.{pos, negsuc}
use lib.ListN.{replicate, set}
use lib.Ieee.{Float, fin, le, eq, add, sub, mul, div, neg, of_int}
use Rattle.marching_cubes_tables.specs.Tables.{corners, edge_connection, triangle_connection}
use Rattle.marching_cubes_tables.specs.Rule.{row_edges}
use Rattle.marching_cubes_impl.specs.declared.vertex.Vertex.{Vertex}
use Rattle.marching_cubes_impl.specs.Sample.{nought, half, one, inside}
use Rattle.marching_cubes_impl.specs.Edge.{offset_of}
use Rattle.marching_cubes_impl.specs.Vertex.{between}
use Rattle.positions.specs.Position.{step_of, corner_of, position_of}
use Rattle.walk.specs.Walk.{times, signs, cell_edges, cell, cells, rows, walk}
use Rattle.walk.specs.Edges.{axis_of, low_offset, edge_of, same}
use Rattle.walk.specs.Cache.{fresh, stored, put_column, get_column, in_layer, put, found, get, advance_cell, advance_row, advance_layer}
use Rattle.walk.specs.Numbering.{Mesh, choose, hooks, mesh, vertices, joined, number, crate}
use Rattle.walk_positions.specs.Grid.{inside_of, position_at}

pub record Found : Type 0 where
  pub points : List Vertex
  pub indices : List ℕ

abbrev pub found_in : {C : Type 0} → List Float → Mesh C → Found
found_in samples s = record { points = vertices (position_at 2 samples) s; indices = s.indices }

-- a grid of size 2 in the numbering with the word 0 (crate) or 1 (joined)
abbrev pub answer : ℕ → List Float → Found
answer numbering samples =
    cond (eqb numbering 1) (found_in samples (mesh joined [] (inside_of 2 samples) 2 2)) (found_in samples (mesh (crate 2) fresh (inside_of 2 samples) 2 2))

pub record Case : Type 0 where
  pub numbering : ℕ
  pub samples : List Float
  pub expected : Found

abbrev pub case : ℕ → List Float → List Vertex → List ℕ → Case
case numbering samples points indices = record { numbering = numbering; samples = samples; expected = record { points = points; indices = indices } }

abbrev pub minus_one : Float
minus_one = fin true 1 (pos 0)

abbrev pub one_and_half : Float
one_and_half = fin false 3 (negsuc 0)

abbrev pub at : Float → Float → Float → Vertex
at x y z = record { x = x; y = y; z = z }

-- all samples 1.0 but one
abbrev pub one-other : ℕ → Float → List Float
one-other place value = set (replicate 12 one) place value

abbrev pub w3 : List Vertex
w3 = at half nought nought ∷ at nought nought half ∷ at nought half nought ∷ []

abbrev pub w6 : List Vertex
w6 = at nought nought nought ∷ at nought nought nought ∷ at nought nought nought ∷ []

abbrev pub w1-to-w6 : List Case
w1-to-w6 =
    case 0 (replicate 12 one) [] [] ∷ case 1 (replicate 12 one) [] []
    ∷ case 0 (replicate 12 minus_one) [] [] ∷ case 1 (replicate 12 minus_one) [] []
    ∷ case 0 (one-other 0 minus_one) w3 (0 ∷ 1 ∷ 2 ∷ []) ∷ case 1 (one-other 0 minus_one) w3 (0 ∷ 1 ∷ 2 ∷ [])
    ∷ case 1 (one-other 4 minus_one) (at half nought one ∷ at nought half one ∷ at nought nought half ∷ at nought nought one_and_half ∷ []) (0 ∷ 1 ∷ 2 ∷ 0 ∷ 3 ∷ 1 ∷ [])
    ∷ case 0 (one-other 4 minus_one) (at half nought one ∷ at nought half one ∷ at nought nought half ∷ at half nought one ∷ at nought nought one_and_half ∷ [])
    (0 ∷ 1 ∷ 2 ∷ 3 ∷ 4 ∷ 1 ∷ [])
    ∷ case 0 (one-other 0 nought) w6 (0 ∷ 1 ∷ 2 ∷ []) ∷ case 1 (one-other 0 nought) w6 (0 ∷ 1 ∷ 2 ∷ [])
    ∷ []

pub cases-hold : map (λ (c : Case). answer c.numbering c.samples) w1-to-w6 ≡ map (λ (c : Case). c.expected) w1-to-w6
unfolding corners edge_connection triangle_connection row_edges times signs cell_edges cell cells rows walk axis_of low_offset edge_of same choose hooks mesh joined number
    crate fresh stored put_column get_column in_layer put found get advance_cell advance_row advance_layer
    inside position_at position_of step_of corner_of between offset_of le eq add sub mul div neg of_int
cases-hold = refl
