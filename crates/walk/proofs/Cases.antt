-- The cases of document 01 that speak of the walk, W1 to W6, as one claim over a list: the grid edges at whose visits the vertices are made, by
-- number, and the indices. Positions are worked out in another crate. Then the list of crossings on two grids, and the grid on which the crate
-- numbering names a stale vertex.
use mathlib.Core.Path.{◌≡◌, refl}
use mathlib.Core.Bool.{cond}
use mathlib.Core.List.{List, [], ◌∷◌, map}
use Prim.Native.Nat.{ℕ, ◌+◌, ◌*◌}
use lib.Dec.{eqb}
use lib.ListN.{length, get_or}
use Rattle.marching_cubes_tables.specs.Tables.{corners, edge_connection, triangle_connection}
use Rattle.marching_cubes_tables.specs.Rule.{row_edges, member}
use Rattle.walk.specs.Walk.{Visit, Inside, times, signs, cell_edges, cell, cells, rows, walk, listing, visits}
use Rattle.walk.specs.Edges.{Edge, axis_of, low_offset, edge_of, crosses, in_box, same, spread, crossing_at, crossings}
use Rattle.walk.specs.Cache.{fresh, stored, put_column, get_column, in_layer, put, found, get, advance_cell, advance_row, advance_layer}
use Rattle.walk.specs.Numbering.{Mesh, choose, hooks, mesh, joined, number, crate}

abbrev pub on : ℕ → ℕ → ℕ → ℕ → Edge
on axis x y z = record { axis = axis; x = x; y = y; z = z }

-- the samples at the listed places of a grid of size n are inside
abbrev pub inside-at : ℕ → List ℕ → Inside
inside-at n places x y z = member ((z * n + y) * n + x) places

-- V is the number of edges
pub record Found : Type 0 where
  pub edges : List Edge
  pub indices : List ℕ

abbrev pub found_in : {C : Type 0} → Mesh C → Found
found_in s = record { edges = map edge_of s.made; indices = s.indices }

-- the mesh of a tall grid of size n, whose inside samples are at the listed places, in the numbering with the word 0 (crate) or 1 (joined)
abbrev pub answer : ℕ → ℕ → List ℕ → Found
answer n numbering places =
    cond (eqb numbering 1) (found_in (mesh joined [] (inside-at n places) n n)) (found_in (mesh (crate n) fresh (inside-at n places) n n))

pub record Case : Type 0 where
  pub numbering : ℕ
  pub inside : List ℕ
  pub expected : Found

abbrev pub all-samples : List ℕ
all-samples = 0 ∷ 1 ∷ 2 ∷ 3 ∷ 4 ∷ 5 ∷ 6 ∷ 7 ∷ 8 ∷ 9 ∷ 10 ∷ 11 ∷ []

abbrev pub none : Found
none = record { edges = []; indices = [] }

abbrev pub one-corner : Found
one-corner = record { edges = on 0 0 0 0 ∷ on 2 0 0 0 ∷ on 1 0 0 0 ∷ []; indices = 0 ∷ 1 ∷ 2 ∷ [] }

abbrev pub case : ℕ → List ℕ → Found → Case
case numbering inside expected = record { numbering = numbering; inside = inside; expected = expected }

-- W6's sample 0 is 0.0, W3's is -1.0: both are inside
abbrev pub w1-to-w6 : List Case
w1-to-w6 =
    case 0 [] none ∷ case 1 [] none
    ∷ case 0 all-samples none ∷ case 1 all-samples none
    ∷ case 0 (0 ∷ []) one-corner ∷ case 1 (0 ∷ []) one-corner
    ∷ case 1 (4 ∷ [])
    (record { edges = on 0 0 0 1 ∷ on 1 0 0 1 ∷ on 2 0 0 0 ∷ on 2 0 0 1 ∷ []; indices = 0 ∷ 1 ∷ 2 ∷ 0 ∷ 3 ∷ 1 ∷ [] })
    ∷ case 0 (4 ∷ [])
    (record { edges = on 0 0 0 1 ∷ on 1 0 0 1 ∷ on 2 0 0 0 ∷ on 0 0 0 1 ∷ on 2 0 0 1 ∷ []; indices = 0 ∷ 1 ∷ 2 ∷ 3 ∷ 4 ∷ 1 ∷ [] })
    ∷ []

pub cases-hold : map (λ (c : Case). answer 2 c.numbering c.inside) w1-to-w6 ≡ map (λ (c : Case). c.expected) w1-to-w6
unfolding corners edge_connection triangle_connection row_edges times signs cell_edges cell cells rows walk axis_of low_offset edge_of same choose hooks mesh joined number
    crate fresh stored put_column get_column in_layer put found get advance_cell advance_row advance_layer
cases-hold = refl

-- W4's grid, and the one whose last sample alone is inside
pub crossings-hold : map (λ (places : List ℕ). crossings (inside-at 2 places) 2 2) ((4 ∷ []) ∷ (11 ∷ []) ∷ [])
    ≡ (on 0 0 0 1 ∷ on 1 0 0 1 ∷ on 2 0 0 0 ∷ on 2 0 0 1 ∷ []) ∷ (on 0 0 1 2 ∷ on 1 1 0 2 ∷ on 2 1 1 1 ∷ []) ∷ []
unfolding crosses in_box spread crossing_at crossings
crossings-hold = refl

-- ---- the stale entry

pub record Stale : Type 0 where
  pub made : ℕ
  pub written : ℕ
  pub index : ℕ
  pub made-on : Edge
  pub visited : Edge

-- the mesh, the index at place 42, the edge on which that vertex was made, and the edge of the visit that wrote the index
abbrev pub stale-in : Inside → Stale
stale-in g =
    let s = mesh (crate 4) fresh g 4 4 in
    let i : ℕ = get_or s.indices 42 0 in
    let nowhere : Visit = record { x = 0; y = 0; z = 0; edge = 0 } in
    record {
      made = length s.made;
      written = length s.indices;
      index = i;
      made-on = edge_of (get_or s.made i nowhere);
      visited = edge_of (get_or (visits g 4 4) 42 nowhere);
    }

pub stale-vertex : stale-in (inside-at 4 (0 ∷ 1 ∷ 5 ∷ 20 ∷ 52 ∷ []))
    ≡ record { made = 25; written = 45; index = 14; made-on = on 0 0 1 1; visited = on 0 0 1 3 }
unfolding corners edge_connection triangle_connection row_edges times signs cell_edges cell cells rows walk listing visits axis_of low_offset edge_of choose hooks mesh
    crate fresh stored put_column get_column in_layer put found get advance_cell advance_row advance_layer
stale-vertex = refl
