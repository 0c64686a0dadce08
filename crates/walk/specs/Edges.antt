-- Grid edges: the one that a visit names, whether the surface crosses it, and the list of those of the box that it crosses. Document 01,
-- "Grid and walk": a visit names a grid edge, two neighbouring samples.
use Rattle.std.specs.Prelude.{Bool, true, false, cond, ◌&&◌, ◌||◌, not, List, [], ◌∷◌, ◌++◌, ℕ, zero, suc, ◌+◌, min, eqb, ltb, leb}
use Rattle.std.specs.Bool.{beq}
use Rattle.marching_cubes_tables.specs.Tables.{corner_offset, edge_end}
use Rattle.walk.specs.Walk.{Visit, Inside}

-- from the sample (x, y, z) to its neighbour along the axis 0, 1 or 2
pub record Edge : Type 0 where
  pub axis : ℕ
  pub x : ℕ
  pub y : ℕ
  pub z : ℕ

-- ---- the grid edge of a visit

-- the axis along which the two corners of the edge e of a cell differ
unfoldable pub axis_of : ℕ → ℕ
axis_of e =
    cond (eqb (corner_offset (edge_end e 0) 0) (corner_offset (edge_end e 1) 0))
    (cond (eqb (corner_offset (edge_end e 0) 1) (corner_offset (edge_end e 1) 1)) 2 1)
    0

-- how far along the axis i its lower corner lies
unfoldable pub low_offset : ℕ → ℕ → ℕ
low_offset e i = min (corner_offset (edge_end e 0) i) (corner_offset (edge_end e 1) i)

unfoldable pub edge_of : Visit → Edge
edge_of v =
    record { axis = axis_of v.edge; x = v.x + low_offset v.edge 0; y = v.y + low_offset v.edge 1; z = v.z + low_offset v.edge 2 }

-- ---- its two ends

-- how far the end of an edge along the axis a lies from its start, along the axis i
abbrev pub reach : ℕ → ℕ → ℕ
reach a i = cond (eqb a i) 1 0

-- the samples at the two ends differ in sign
unfoldable pub crosses : Inside → Edge → Bool
crosses g k = not (beq (g k.x k.y k.z) (g (k.x + reach k.axis 0) (k.y + reach k.axis 1) (k.z + reach k.axis 2)))

-- both ends are samples of the box, n by n by layers + 1
unfoldable pub in_box : ℕ → ℕ → Edge → Bool
in_box n layers k =
    ltb k.axis 3
    && (ltb (k.x + reach k.axis 0) n && (ltb (k.y + reach k.axis 1) n && leb (k.z + reach k.axis 2) layers))

-- ---- lists of edges

unfoldable pub same : Edge → Edge → Bool
same a b = eqb a.axis b.axis && (eqb a.x b.x && (eqb a.y b.y && eqb a.z b.z))

unfoldable pub has : Edge → List Edge → Bool
has k [] = false
has k (m ∷ ms) = same k m || has k ms

-- no edge stands twice
unfoldable pub distinct : List Edge → Bool
distinct [] = true
distinct (m ∷ ms) = not (has m ms) && distinct ms

-- f 0, f 1, .. f (k - 1), one after the other
unfoldable pub spread : {A : Type 0} → ℕ → (ℕ → List A) → List A
spread zero f = []
spread (suc k) f = spread k f ++ f k

unfoldable pub crossing_at : Inside → ℕ → ℕ → Edge → List Edge
crossing_at g n layers k = cond (in_box n layers k && crosses g k) (k ∷ []) []

-- the grid edges of the box that the surface crosses, each once
unfoldable pub crossings : Inside → ℕ → ℕ → List Edge
crossings g n layers =
    spread 3 (λ i. spread (layers + 1) (λ z. spread n (λ y. spread n (λ x. crossing_at g n layers (record { axis = i; x = x; y = y; z = z })))))
