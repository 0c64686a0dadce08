-- A test over the eight corner signs of a cell, computed over all 256 of them, and what it says of each; and what a cell is without the tables: its
-- row by its eight samples, and its twelve edges by their places.
use mathlib.Core.Path.{◌≡◌, ap}
use mathlib.Core.Bool.{Bool, true, false, ◌&&◌}
use mathlib.Core.List.{List, [], ◌∷◌}
use Prim.Native.Nat.{ℕ, zero, suc, ◌+◌, ◌<◌}
use native.Mathlib.Nat.{add-zero}
use native.Mathlib.Omega.{arith}
use lib.Dec.{T}
use lib.ListN.{get_or}
use Rattle.marching_cubes_tables.specs.Tables.{corners, edge_connection}
use Rattle.marching_cubes_tables.specs.Rule.{row_edges}
use Rattle.marching_cubes_tables.proofs.Tests.{both_left, both_right}
use Rattle.walk.specs.Walk.{Inside, cell_edges}
use Rattle.walk.specs.Edges.{Edge, axis_of, low_offset, edge_of}
use Rattle.walk.proofs.SignByte.{byte, signs-byte}
use Rattle.walk.proofs.GridEdges.{edge_at, visit_at}

-- ---- all signs

abbrev pub all_two : (Bool → Bool → Bool) → Bool
all_two f = f true true && (f true false && (f false true && f false false))

abbrev pub all_four : (Bool → Bool → Bool → Bool → Bool) → Bool
all_four f = all_two (λ a b. all_two (f a b))

abbrev pub all_eight : (Bool → Bool → Bool → Bool → Bool → Bool → Bool → Bool → Bool) → Bool
all_eight f = all_four (λ a b c d. all_four (f a b c d))

pub all_two-at : (f : Bool → Bool → Bool) → T (all_two f) → (a b : Bool) → T (f a b)
all_two-at f t true true = both_left (f true true) _ t
all_two-at f t true false = both_left (f true false) _ (both_right (f true true) _ t)
all_two-at f t false true = both_left (f false true) _ (both_right (f true false) _ (both_right (f true true) _ t))
all_two-at f t false false = both_right (f false true) _ (both_right (f true false) _ (both_right (f true true) _ t))

pub all_four-at : (f : Bool → Bool → Bool → Bool → Bool) → T (all_four f) → (a b c d : Bool) → T (f a b c d)
all_four-at f t a b c d = all_two-at (f a b) (all_two-at (λ a b. all_two (f a b)) t a b) c d

pub all_eight-at : (f : Bool → Bool → Bool → Bool → Bool → Bool → Bool → Bool → Bool) → T (all_eight f) → (a b c d e m p q : Bool)
    → T (f a b c d e m p q)
all_eight-at f t a b c d e m p q = all_four-at (f a b c d) (all_four-at (λ a b c d. all_four (f a b c d)) t a b c d) e m p q

-- ---- a cell without the tables

pub cell_edges-byte : (g : Inside) (x y z : ℕ)
    → cell_edges g x y z
    ≡ row_edges (byte (g x y z) (g (x + 1) y z) (g (x + 1) (y + 1) z) (g x (y + 1) z)
    (g x y (z + 1)) (g (x + 1) y (z + 1)) (g (x + 1) (y + 1) (z + 1)) (g x (y + 1) (z + 1)))
unfolding cell_edges
cell_edges-byte g x y z = ap row_edges (signs-byte g x y z)

abbrev pub twelve_edges : ℕ → ℕ → ℕ → List Edge
twelve_edges x y z =
    edge_at 0 x y z ∷ edge_at 1 (x + 1) y z ∷ edge_at 0 x (y + 1) z ∷ edge_at 1 x y z
    ∷ edge_at 0 x y (z + 1) ∷ edge_at 1 (x + 1) y (z + 1) ∷ edge_at 0 x (y + 1) (z + 1) ∷ edge_at 1 x y (z + 1)
    ∷ edge_at 2 x y z ∷ edge_at 2 (x + 1) y z ∷ edge_at 2 (x + 1) (y + 1) z ∷ edge_at 2 x (y + 1) z ∷ []

pub edge_of-twelve : (x y z e : ℕ) → e < 12 → edge_of (visit_at x y z e) ≡ get_or (twelve_edges x y z) e (edge_at 3 0 0 0)
unfolding edge_of axis_of low_offset corners edge_connection
edge_of-twelve x y z zero h = simp add-zero
edge_of-twelve x y z (suc zero) h = simp add-zero
edge_of-twelve x y z (suc (suc zero)) h = simp add-zero
edge_of-twelve x y z (suc (suc (suc zero))) h = simp add-zero
edge_of-twelve x y z (suc (suc (suc (suc zero)))) h = simp add-zero
edge_of-twelve x y z (suc (suc (suc (suc (suc zero))))) h = simp add-zero
edge_of-twelve x y z (suc (suc (suc (suc (suc (suc zero)))))) h = simp add-zero
edge_of-twelve x y z (suc (suc (suc (suc (suc (suc (suc zero))))))) h = simp add-zero
edge_of-twelve x y z (suc (suc (suc (suc (suc (suc (suc (suc zero)))))))) h = simp add-zero
edge_of-twelve x y z (suc (suc (suc (suc (suc (suc (suc (suc (suc zero))))))))) h = simp add-zero
edge_of-twelve x y z (suc (suc (suc (suc (suc (suc (suc (suc (suc (suc zero)))))))))) h = simp add-zero
edge_of-twelve x y z (suc (suc (suc (suc (suc (suc (suc (suc (suc (suc (suc zero))))))))))) h = simp add-zero
edge_of-twelve x y z (suc (suc (suc (suc (suc (suc (suc (suc (suc (suc (suc (suc e)))))))))))) h = absurd (omega arith)
