-- Calls and what is answered to them, as one claim over a list: each cause where everything that a later one asks for is wrong too, then the room for the
-- mesh of W3, three vertices and three indices. What the calls leave is held by crates/cases.
use mathlib.Core.Path.{◌≡◌, refl}
use mathlib.Core.Bool.{true}
use mathlib.Core.List.{List, [], ◌∷◌, map}
use Prim.Native.Nat.{ℕ}
use lib.IntN.{pos}
use lib.ListN.{replicate, set}
use lib.Ieee.{Float, nan, fin, le, of_bits}
use Rattle.marching_cubes_tables.specs.Tables.{corners, edge_connection, triangle_connection}
use Rattle.marching_cubes_tables.specs.Rule.{row_edges}
use Rattle.marching_cubes_impl.specs.Sample.{one, inside, good}
use Rattle.walk.specs.Walk.{signs, cell_edges, times, cell, cells, rows, walk}
use Rattle.walk.specs.Edges.{axis_of, low_offset, edge_of, same}
use Rattle.walk.specs.Cache.{fresh, stored, put_column, get_column, in_layer, put, found, get, advance_cell, advance_row, advance_layer}
use Rattle.walk.specs.Numbering.{choose, hooks, mesh, number, joined, crate}
use Rattle.sample_check.specs.Samples.{lowest_bad}
use Rattle.outcome.specs.declared.Answer.{Answer}
use Rattle.outcome.specs.Outcome.{surface_of, filled, outcome}

-- a call: size, numbering, samples, words of working memory, and room for floats and for indices
data Call : Type 0 where
  call : ℕ → ℕ → List Float → ℕ → ℕ → ℕ → Call

abbrev answer : Call → Answer
answer (call size numbering samples words floats indices) =
    (outcome size numbering samples (replicate words 7) (replicate floats one) (replicate indices 9)).answer

abbrev answered : ℕ → ℕ → ℕ → ℕ → Answer
answered cause place vertices indices = record { cause = cause; place = place; vertices = vertices; indices = indices }

-- W3: the samples of size 2 are 1.0, but the first
abbrev corner : List Float
corner = set (replicate 12 one) 0 (fin true 1 (pos 0))

-- its fourth sample is bad
abbrev bad : List Float
bad = set corner 3 nan

cases : map answer (
    call 1 2 [] 0 0 0 ∷
    call 129 2 [] 0 0 0 ∷
    call 2 2 [] 0 0 0 ∷
    call 2 1 [] 0 0 0 ∷
    call 2 1 bad 43 0 0 ∷
    call 2 1 bad 44 0 0 ∷
    call 2 1 corner 44 8 2 ∷
    call 2 0 corner 44 8 2 ∷
    call 2 1 corner 44 9 2 ∷
    call 2 0 corner 44 9 2 ∷
    call 2 1 corner 44 9 3 ∷
    call 2 0 corner 44 9 3 ∷
    []) ≡
    answered 1 0 0 0 ∷
    answered 1 0 0 0 ∷
    answered 2 0 0 0 ∷
    answered 3 0 0 0 ∷
    answered 4 0 0 0 ∷
    answered 5 3 0 0 ∷
    answered 6 0 3 3 ∷
    answered 6 0 3 3 ∷
    answered 7 0 3 3 ∷
    answered 7 0 3 3 ∷
    answered 0 0 3 3 ∷
    answered 0 0 3 3 ∷
    []
unfolding outcome filled surface_of lowest_bad good inside le of_bits mesh walk rows cells cell times signs cell_edges row_edges triangle_connection corners edge_connection hooks choose joined crate number same edge_of axis_of low_offset fresh stored put_column get_column in_layer put found get advance_cell advance_row advance_layer
cases = refl
