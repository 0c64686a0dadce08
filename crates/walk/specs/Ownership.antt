-- Which edges of a cell get their vertex there in the joined numbering. Code decides by these and promises in their terms; that they are right is
-- proved (`joined-ownership` and `cell-by-ownership` in proofs/), so nothing here need be believed.
use Rattle.std.specs.Prelude.{Bool, true, false, cond, ◌&&◌, not, List, [], ◌∷◌, ℕ, eqb, get_or}

-- by edge, from whether x, y and z are 0: no earlier cell has the edge
unfoldable pub owned : Bool → Bool → Bool → ℕ → Bool
owned x0 y0 z0 e =
    get_or ((y0 && z0) ∷ z0 ∷ z0 ∷ (x0 && z0) ∷ y0 ∷ true ∷ true ∷ x0 ∷ (x0 && y0) ∷ y0 ∷ true ∷ x0 ∷ []) e false

-- the edges of a row that are new, each where the row first names it
unfoldable pub new_edges : (ℕ → Bool) → List ℕ → List ℕ
new_edges new [] = []
new_edges new (e ∷ r) = cond (new e) (e ∷ new_edges (λ d. new d && not (eqb d e)) r) (new_edges new r)
