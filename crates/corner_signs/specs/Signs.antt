-- What a cell has by the signs of its eight corners, in the order of CORNERS. A private model, which the count's contracts cite; nobody need believe it.
use Rattle.std.specs.Prelude.{Bool, cond, not, ◌&&◌, List, [], ◌∷◌, ℕ, ◌+◌}
use Rattle.marching_cubes_tables.specs.Rule.{row_edges}
use Rattle.walk.specs.Walk.{bit, byte_of}

-- the row of the table
abbrev pub row_of : Bool → Bool → Bool → Bool → Bool → Bool → Bool → Bool → List ℕ
row_of p q r s t u v w = row_edges (byte_of (p ∷ q ∷ r ∷ s ∷ t ∷ u ∷ v ∷ w ∷ []))

abbrev pub differ : Bool → Bool → Bool
differ p q = cond p (not q) q

abbrev pub four : Bool → Bool → Bool → Bool → Bool
four p q r s = ((p && q) && r) && s

abbrev pub inside_at : Bool → Bool → Bool → Bool → Bool → Bool → Bool → Bool → ℕ
inside_at p q r s t u v w = (bit p + bit q + bit r + bit s) + (bit t + bit u + bit v + bit w)

abbrev pub faces_at : Bool → Bool → Bool → Bool → Bool → Bool → Bool → Bool → ℕ
faces_at p q r s t u v w =
    (bit (four p q r s) + bit (four t u v w)) + (bit (four p q t u) + bit (four r s v w)) + (bit (four p s t w) + bit (four q r u v))

-- all eight
abbrev pub whole_at : Bool → Bool → Bool → Bool → Bool → Bool → Bool → Bool → ℕ
whole_at p q r s t u v w = bit ((((four p q r s && t) && u) && v) && w)

-- all but two that lie across the cell
abbrev pub opposite_at : Bool → Bool → Bool → Bool → Bool → Bool → Bool → Bool → ℕ
opposite_at p q r s t u v w =
    bit (((four r s t u && differ p q) && differ v w) && differ p w) + bit (((four p q v w && differ r s) && differ t u) && differ s t)

-- the edges 5, 6 and 10; 7 and 11 where x = 0; 4 and 9 where y = 0; 8 where both are
abbrev pub crossing_at : Bool → Bool → Bool → Bool → Bool → Bool → Bool → Bool → Bool → Bool → ℕ
crossing_at x0 y0 p q r s t u v w =
    (bit (differ u v) + bit (differ v w) + bit (differ r v)) + (bit (differ t w && x0) + bit (differ s w && x0))
    + (bit (differ t u && y0) + bit (differ q u && y0))
    + bit ((differ p t && x0) && y0)
