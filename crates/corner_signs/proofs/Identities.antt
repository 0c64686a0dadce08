-- Of one cell, by its eight signs, computed over all 256 of them: its triangles by corners, faces and opposite corners, and its new edges by the ends of eight. New
-- edges are counted by the twelve, since to compute their lists over all rows is slow.
use mathlib.Core.Path.{◌≡◌, ◌∙◌}
use mathlib.Core.Bool.{Bool, false, ◌&&◌}
use mathlib.Core.List.{[], ◌∷◌}
use Prim.Native.Nat.{◌+◌, ◌*◌, ◌/◌, ◌≤◌}
use lib.Dec.{T, eqb, eqb→eq, leb, leb→le}
use lib.ListN.{length}
use Rattle.walk.specs.Walk.{byte_of}
use Rattle.walk.specs.Ownership.{owned, new_edges}
use Rattle.walk.proofs.SignByte.{byte_of-lt}
use Rattle.walk.proofs.NewEdges.{counted, new_edges-counted}
use Rattle.walk.proofs.EightSigns.{all_two, all_two-at, all_eight, all_eight-at}
use Rattle.marching_cubes_tables.proofs.Tests.{both_left, both_right}
use Rattle.marching_cubes_tables.specs.Rule.{row_edges, member}
use Rattle.marching_cubes_tables.specs.Tables.{triangle_connection}
use Rattle.marching_cubes_tables.proofs.Rule.{row-rule}
use Rattle.corner_signs.specs.Signs.{row_of, inside_at, faces_at, whole_at, opposite_at, crossing_at}

abbrev triangles_hold : Bool → Bool → Bool → Bool → Bool → Bool → Bool → Bool → Bool
triangles_hold p q r s t u v w =
    eqb (inside_at p q r s t u v w + 4 * whole_at p q r s t u v w)
    (length (row_of p q r s t u v w) / 3 + 2 * faces_at p q r s t u v w + 4 * opposite_at p q r s t u v w)

triangles-all : T (all_eight triangles_hold)
unfolding row_edges triangle_connection
triangles-all = tt

pub triangles-hold : (p q r s t u v w : Bool)
    → inside_at p q r s t u v w + 4 * whole_at p q r s t u v w
    ≡ length (row_of p q r s t u v w) / 3 + 2 * faces_at p q r s t u v w + 4 * opposite_at p q r s t u v w
triangles-hold p q r s t u v w = eqb→eq _ _ (all_eight-at triangles_hold triangles-all p q r s t u v w)

abbrev new_hold : Bool → Bool → Bool → Bool → Bool → Bool → Bool → Bool → Bool → Bool → Bool
new_hold x0 y0 p q r s t u v w = eqb (counted 12 (λ d. member d (row_of p q r s t u v w) && owned x0 y0 false d)) (crossing_at x0 y0 p q r s t u v w)

new-all : T (all_two (λ x0 y0. all_eight (new_hold x0 y0)))
unfolding row_edges triangle_connection owned counted
new-all = tt

pub new-hold : (x0 y0 p q r s t u v w : Bool)
    → length (new_edges (owned x0 y0 false) (row_of p q r s t u v w)) ≡ crossing_at x0 y0 p q r s t u v w
new-hold x0 y0 p q r s t u v w =
    new_edges-counted (row_of p q r s t u v w) (owned x0 y0 false) (row-rule (byte_of (p ∷ q ∷ r ∷ s ∷ t ∷ u ∷ v ∷ w ∷ [])) (byte_of-lt (p ∷ q ∷ r ∷ s ∷ t ∷ u ∷ v ∷ w ∷ []))).edge
    ∙ eqb→eq _ _ (all_eight-at (new_hold x0 y0) (all_two-at (λ x0 y0. all_eight (new_hold x0 y0)) new-all x0 y0) p q r s t u v w)

abbrev most_hold : Bool → Bool → Bool → Bool → Bool → Bool → Bool → Bool → Bool
most_hold p q r s t u v w = leb (length (row_of p q r s t u v w) / 3) 5 && eqb (3 * (length (row_of p q r s t u v w) / 3)) (length (row_of p q r s t u v w))

most-all : T (all_eight most_hold)
unfolding row_edges triangle_connection
most-all = tt

pub row-most : (p q r s t u v w : Bool) → length (row_of p q r s t u v w) / 3 ≤ 5
row-most p q r s t u v w = leb→le _ _ (both_left (leb (length (row_of p q r s t u v w) / 3) 5) _ (all_eight-at most_hold most-all p q r s t u v w))

pub row-threes : (p q r s t u v w : Bool) → 3 * (length (row_of p q r s t u v w) / 3) ≡ length (row_of p q r s t u v w)
row-threes p q r s t u v w =
    eqb→eq _ _ (both_right (leb (length (row_of p q r s t u v w) / 3) 5) _ (all_eight-at most_hold most-all p q r s t u v w))
