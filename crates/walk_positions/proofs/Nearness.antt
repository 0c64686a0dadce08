-- Demand 3 over the mesh, in either numbering: every coordinate of every vertex is within 2 ^ -20 of the exact crossing on the grid edge at whose
-- visit the vertex was made.
use mathlib.Core.Path.{◌≡◌, sym, ◌∙◌, subst}
use mathlib.Core.Bool.{Bool, true}
use mathlib.Core.List.{List, []}
use Prim.Native.Nat.{ℕ, ◌+◌, ◌<◌}
use native.Mathlib.Omega.{arith}
use lib.Dec.{T}
use lib.ListN.{length, get_or, get_or-map}
use lib.Ieee.{Float}
use Rattle.marching_cubes_impl.specs.declared.vertex.Vertex.{Vertex}
use Rattle.marching_cubes_impl.specs.Edge.{crosses}
use Rattle.positions.specs.Position.{sample_at, end_of}
use Rattle.positions.specs.Crossing.{NearCrossing, GoodGrid}
use Rattle.positions.proofs.Edges.{position-of-samples-near}
use Rattle.walk.specs.Walk.{Visit}
use Rattle.walk.specs.Cache.{fresh}
use Rattle.walk.specs.Numbering.{Numbering, mesh, vertices, joined, crate}
use Rattle.walk.proofs.GridEdges.{edge_of-crosses}
use Rattle.walk.proofs.Counts.{Visited, no_visit, made-visited}
use Rattle.walk_positions.specs.Grid.{inside_of, position_at}

-- p is near the exact crossing on the edge that the visit v names, between the samples at its two ends
abbrev pub NearVisit : ℕ → List Float → Visit → Vertex → Type 0
NearVisit n samples v p =
    let first = end_of v.x v.y v.z v.edge 0 in
    let second = end_of v.x v.y v.z v.edge 1 in
    NearCrossing n first second (sample_at n samples first) (sample_at n samples second) p

t_of : (b : Bool) → b ≡ true → T b
t_of b h = subst T (sym h) tt

module _ (n layers : ℕ) (samples : List Float) (grid : GoodGrid n (layers + 1) samples) where
  visit-near : (v : Visit) → Visited (inside_of n samples) n layers v → NearVisit n samples v (position_at n samples v)
  unfolding position_at crosses
  visit-near v h =
      let hx = h.x_lt in
      let hy = h.y-lt in
      let hz = h.z-lt in
      position-of-samples-near n (layers + 1) samples grid v.x v.y v.z v.edge (omega arith) (omega arith) (omega arith)
      (t_of _ (sym (edge_of-crosses v.x v.y v.z v.edge h.edge-lt (inside_of n samples)) ∙ h.crosses))

  -- for every vertex number i
  pub vertices-near : {C : Type 0} (m : Numbering C) (c : C) (i : ℕ) → i < length (mesh m c (inside_of n samples) n layers).made
      → NearVisit n samples (get_or (mesh m c (inside_of n samples) n layers).made i no_visit)
      (get_or (vertices (position_at n samples) (mesh m c (inside_of n samples) n layers)) i (position_at n samples no_visit))
  vertices-near m c i h =
      let made : List Visit = (mesh m c (inside_of n samples) n layers).made in
      subst (NearVisit n samples (get_or made i no_visit)) (sym (get_or-map (position_at n samples) made i no_visit))
      (visit-near (get_or made i no_visit) (made-visited m c (inside_of n samples) n layers i h))

-- Demand 3, joined: for every vertex i, each coordinate is within 2 ^ -20 of the exact crossing on the grid edge at whose visit it was made.
pub joined-near : (n layers : ℕ) (samples : List Float) → GoodGrid n (layers + 1) samples → (i : ℕ)
    → i < length (mesh joined [] (inside_of n samples) n layers).made
    → NearVisit n samples (get_or (mesh joined [] (inside_of n samples) n layers).made i no_visit)
    (get_or (vertices (position_at n samples) (mesh joined [] (inside_of n samples) n layers)) i (position_at n samples no_visit))
joined-near n layers samples grid = vertices-near n layers samples grid joined []

-- Demand 3, crate: the same. A triangle may name a stale vertex, but the vertex stands where its own visit put it.
pub crate-near : (n layers : ℕ) (samples : List Float) → GoodGrid n (layers + 1) samples → (i : ℕ)
    → i < length (mesh (crate n) fresh (inside_of n samples) n layers).made
    → NearVisit n samples (get_or (mesh (crate n) fresh (inside_of n samples) n layers).made i no_visit)
    (get_or (vertices (position_at n samples) (mesh (crate n) fresh (inside_of n samples) n layers)) i (position_at n samples no_visit))
crate-near n layers samples grid = vertices-near n layers samples grid (crate n) fresh
