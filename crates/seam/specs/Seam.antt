-- CR 9: what a side of a triangle is, what an outer face of the box is, and what it means that a mesh has no open seam inside the box. Held to W4
-- and W5 by `proofs/Cases.antt`, and counted on the library's meshes by the oracle.
use Rattle.std.specs.Prelude.{◌≡◌, Bool, false, cond, not, ◌&&◌, ◌||◌, List, [], ◌∷◌, ℕ, ◌+◌, ◌-◌, ◌<◌, eqb, length, get_or}
use Rattle.walk.specs.Walk.{Visit}
use Rattle.walk.specs.Edges.{Edge, edge_of}

-- ---- sides

-- the triangle p q r has the side from a to b
unfoldable pub has_side : ℕ → ℕ → ℕ → ℕ → ℕ → Bool
has_side a b p q r = (eqb p a && eqb q b) || ((eqb q a && eqb r b) || (eqb r a && eqb p b))

-- how many triangles of a list of indices, three to a triangle, have it
unfoldable pub triangles_with : ℕ → ℕ → List ℕ → ℕ
triangles_with a b [] = 0
triangles_with a b (p ∷ []) = 0
triangles_with a b (p ∷ q ∷ []) = 0
triangles_with a b (p ∷ q ∷ r ∷ l) = cond (has_side a b p q r) 1 0 + triangles_with a b l

-- ---- outer faces

-- a plane of the grid: the samples whose coordinate along the axis 0, 1 or 2 is `at`
pub record Plane : Type 0 where
  pub axis : ℕ
  pub at : ℕ

abbrev pub plane : ℕ → ℕ → Plane
plane axis at = record { axis = axis; at = at }

-- both ends of the edge are in the plane: it does not run along the plane's axis, and starts in the plane
unfoldable pub lies_in : Plane → Edge → Bool
lies_in p k = not (eqb k.axis p.axis) && eqb (get_or (k.x ∷ k.y ∷ k.z ∷ []) p.axis 0) p.at

-- the outer faces of the box of n by n by layers + 1 samples
abbrev pub outer_faces : ℕ → ℕ → List Plane
outer_faces n layers = plane 0 0 ∷ plane 0 (n - 1) ∷ plane 1 0 ∷ plane 1 (n - 1) ∷ plane 2 0 ∷ plane 2 layers ∷ []

-- both edges lie in one of the planes
unfoldable pub in_one_of : List Plane → Edge → Edge → Bool
in_one_of [] a b = false
in_one_of (p ∷ ps) a b = (lies_in p a && lies_in p b) || in_one_of ps a b

-- ---- the claim

-- the grid edge of vertex i, where `made` are the visits that made the vertices, by number
unfoldable pub edge_of_vertex : List Visit → ℕ → Edge
edge_of_vertex made i = edge_of (get_or made i (record { x = 0; y = 0; z = 0; edge = 0 }))

-- For every ordered pair of vertices whose grid edges do not both lie in one outer face, as many triangles have the side from the first to the
-- second as from the second to the first.
abbrev pub NoOpenSeam : ℕ → ℕ → List Visit → List ℕ → Type 0
NoOpenSeam n layers made indices =
    (i j : ℕ) → i < length made → j < length made → in_one_of (outer_faces n layers) (edge_of_vertex made i) (edge_of_vertex made j) ≡ false
    → triangles_with i j indices ≡ triangles_with j i indices
