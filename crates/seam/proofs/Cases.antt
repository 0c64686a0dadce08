-- CR 9 at work, computed: the face rule at every pattern of a square, a pair of W4 that closes and two outer pairs that need not, and W5, the same
-- grid in the crate numbering, where the inner pair is open.
use mathlib.Core.Path.{◌≡◌, refl}
use mathlib.Core.Bool.{Bool, true, false}
use mathlib.Core.List.{List, [], ◌∷◌}
use Prim.Native.Nat.{ℕ}
use Rattle.marching_cubes_tables.specs.Tables.{corners, edge_connection, triangle_connection}
use Rattle.marching_cubes_tables.specs.Rule.{row_edges}
use Rattle.walk.specs.Walk.{times, signs, cell_edges, cell, cells, rows, walk}
use Rattle.walk.specs.Edges.{axis_of, low_offset, edge_of, same}
use Rattle.walk.specs.Cache.{fresh, stored, put_column, get_column, in_layer, put, found, get, advance_cell, advance_row, advance_layer}
use Rattle.walk.specs.Numbering.{Mesh, choose, hooks, mesh, joined, number, crate}
use Rattle.walk.proofs.Cases.{inside-at}
use Rattle.seam.specs.Seam.{has_side, triangles_with, lies_in, outer_faces, in_one_of, edge_of_vertex}
use Rattle.seam.specs.FaceRule.{Side, side, run, around}

-- ---- a square

-- the sides that the signs of the corners p, q, r, s put on a square whose edges pq, qr, rs and sp are called 0 to 3
abbrev on : Bool → Bool → Bool → Bool → List (Side ℕ)
on p q r s = around p q r s 0 1 2 3

-- by the number of inside corners: none, one, two together, two across (the crossed patterns), three, all
pub square-cases :
    on false false false false ∷
    on true false false false ∷ on false true false false ∷ on false false true false ∷ on false false false true ∷
    on true true false false ∷ on false true true false ∷ on false false true true ∷ on true false false true ∷
    on true false true false ∷ on false true false true ∷
    on true true true false ∷ on false true true true ∷ on true false true true ∷ on true true false true ∷
    on true true true true ∷ []
    ≡ [] ∷
    (side 0 3 ∷ []) ∷ (side 1 0 ∷ []) ∷ (side 2 1 ∷ []) ∷ (side 3 2 ∷ []) ∷
    (side 1 3 ∷ []) ∷ (side 2 0 ∷ []) ∷ (side 3 1 ∷ []) ∷ (side 0 2 ∷ []) ∷
    (side 0 3 ∷ side 2 1 ∷ []) ∷ (side 1 0 ∷ side 3 2 ∷ []) ∷
    (side 2 3 ∷ []) ∷ (side 3 0 ∷ []) ∷ (side 0 1 ∷ []) ∷ (side 1 2 ∷ []) ∷
    [] ∷ []
unfolding around run
square-cases = refl

-- ---- a mesh

-- a pair of vertices: whether an outer face has both, and how many triangles have the side there and the side back
pub record Pair : Type 0 where
  pub outer : Bool
  pub there : ℕ
  pub back : ℕ

abbrev pair : {C : Type 0} → ℕ → ℕ → Mesh C → ℕ → ℕ → Pair
pair n layers s i j =
    record {
      outer = in_one_of (outer_faces n layers) (edge_of_vertex s.made i) (edge_of_vertex s.made j);
      there = triangles_with i j s.indices;
      back = triangles_with j i s.indices;
    }

-- W4: vertices 0 and 1 lie on the plane z = 1, inside the tall box, and close; 0 and 2 lie on y = 0, an outer face
pub w4 : (let s = mesh joined [] (inside-at 2 (4 ∷ [])) 2 2 in pair 2 2 s 0 1 ∷ pair 2 2 s 2 0 ∷ [])
    ≡ record { outer = false; there = 1; back = 1 } ∷ record { outer = true; there = 1; back = 0 } ∷ []
unfolding corners edge_connection triangle_connection row_edges times signs cell_edges cell cells rows walk axis_of low_offset edge_of same choose hooks mesh joined number
    has_side triangles_with lies_in in_one_of edge_of_vertex
w4 = refl

-- the grid whose last sample alone is inside: each side of its one triangle lies in an outer face, at x = 1, y = 1 and z = 2
pub last-corner : (let s = mesh joined [] (inside-at 2 (11 ∷ [])) 2 2 in pair 2 2 s 0 1 ∷ pair 2 2 s 1 2 ∷ pair 2 2 s 2 0 ∷ [])
    ≡ record { outer = true; there = 1; back = 0 } ∷ record { outer = true; there = 1; back = 0 } ∷ record { outer = true; there = 1; back = 0 } ∷ []
unfolding corners edge_connection triangle_connection row_edges times signs cell_edges cell cells rows walk axis_of low_offset edge_of same choose hooks mesh joined number
    has_side triangles_with lies_in in_one_of edge_of_vertex
last-corner = refl

-- W5: the crate numbering makes the vertex on the edge of vertex 0 a second time, as number 3, so that pair 0 and 1 is open
pub w5 : pair 2 2 (mesh (crate 2) fresh (inside-at 2 (4 ∷ [])) 2 2) 0 1 ≡ record { outer = false; there = 1; back = 0 }
unfolding corners edge_connection triangle_connection row_edges times signs cell_edges cell cells rows walk axis_of low_offset edge_of choose hooks mesh
    crate fresh stored put_column get_column in_layer put found get advance_cell advance_row advance_layer has_side triangles_with lies_in in_one_of edge_of_vertex
w5 = refl
