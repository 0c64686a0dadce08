-- One law for whatever follows the joined walk cell by cell: a relation to its mesh that each cell keeps, told where the walk is, holds at the end.
-- The count is the first use.
use mathlib.Core.Path.{◌≡◌, refl, sym, ap, ap₂, ◌∙◌}
use mathlib.Core.List.{List, [], ◌++◌, map}
use Prim.Native.Nat.{ℕ, suc, ◌+◌, ◌-◌, ◌<◌}
use lib.ListN.{length, length-append, length-map}
use Rattle.walk.specs.Walk.{Inside, cell_edges, cell, cells, rows, walk}
use Rattle.walk.specs.Edges.{Edge}
use Rattle.walk.specs.Numbering.{Mesh, empty, hooks, mesh, joined}
use Rattle.walk.proofs.GridEdges.{visit_at}
use Rattle.walk.proofs.WalkInduction.{times-kept, Alone, cell-kept}
use Rattle.walk.proofs.Ownership.{Met, met-steps, met_start}
use Rattle.walk.proofs.OwnedCells.{key, numbers, cell-by-ownership}
use Rattle.walk_models.specs.Owned.{cell_new, cells_of_row, cells_of_layer, cells_of_grid, Count, count_cell}

pub record CellSteps {S : Type 0} (g : Inside) (n layers : ℕ) (step : ℕ → ℕ → ℕ → S → S) (R : ℕ → Mesh (List Edge) → S → Type 0) : Type 0 where
  pub cell : (z y x : ℕ) (s : Mesh (List Edge)) (t : S) → z < layers → y < n - 1 → x < n - 1 → Met g n layers z y x 0 s → R z s t
      → R z (cell (hooks joined) g n z y x s) (step z y x t)
  pub layer_end : (z : ℕ) (s : Mesh (List Edge)) (t : S) → z < layers → Met g n layers (suc z) 0 0 0 s → R z s t → R (suc z) s t

record Both {S : Type 0} (g : Inside) (n layers : ℕ) (R : ℕ → Mesh (List Edge) → S → Type 0) (z y x : ℕ) (s : Mesh (List Edge)) (t : S) : Type 0 where
  met : Met g n layers z y x 0 s
  rel : R z s t

module _ {S : Type 0} (g : Inside) (n layers : ℕ) (step : ℕ → ℕ → ℕ → S → S) (R : ℕ → Mesh (List Edge) → S → Type 0) (q : CellSteps g n layers step R) where
  abbrev K : ℕ → ℕ → ℕ → Mesh (List Edge) → S → Type 0
  K = Both g n layers R

  one_cell : (z y x : ℕ) (s : Mesh (List Edge)) (t : S) → z < layers → y < n - 1 → x < n - 1 → K z y x s t
      → K z y (suc x) (cell (hooks joined) g n z y x s) (step z y x t)
  one_cell z y x s t lz ly lx p =
      record {
        met = cell-kept g n layers (hooks joined) (hooks joined) (Alone (Met g n layers)) (met-steps g n layers) z y x lz ly lx s s p.met;
        rel = q.cell z y x s t lz ly lx p.met p.rel;
      }

  one-row : (z y : ℕ) (s : Mesh (List Edge)) (t : S) → z < layers → y < n - 1 → K z y 0 s t
      → K z (suc y) 0 ((hooks joined).row_end (cells (hooks joined) g n z y (n - 1) s)) (cells_of_row step n z y (n - 1) t)
  unfolding cells cells_of_row hooks joined
  one-row z y s t lz ly p =
      let e : K z y (n - 1) (cells (hooks joined) g n z y (n - 1) s) (cells_of_row step n z y (n - 1) t) =
      times-kept (λ x. K z y x) _ _ (n - 1) (λ x a b lx r. one_cell z y x a b lz ly lx r) s t p in
      record { met = (met-steps g n layers).row_end z y _ (cells (hooks joined) g n z y (n - 1) s) lz ly e.met; rel = e.rel }

  one-layer : (z : ℕ) (s : Mesh (List Edge)) (t : S) → z < layers → K z 0 0 s t
      → K (suc z) 0 0 ((hooks joined).layer_end z (rows (hooks joined) g n z (n - 1) s)) (cells_of_layer step n z (n - 1) t)
  unfolding rows cells_of_layer hooks joined
  one-layer z s t lz p =
      let e : K z (n - 1) 0 (rows (hooks joined) g n z (n - 1) s) (cells_of_layer step n z (n - 1) t) =
      times-kept (λ y. K z y 0) _ _ (n - 1) (λ y a b ly r. one-row z y a b lz ly r) s t p in
      let m : Met g n layers (suc z) 0 0 0 (rows (hooks joined) g n z (n - 1) s) = (met-steps g n layers).layer_end z _ (rows (hooks joined) g n z (n - 1) s) lz e.met in
      record { met = m; rel = q.layer_end z _ _ lz m e.rel }

  pub cells-related : (t : S) → R 0 (empty []) t → R layers (mesh joined [] g n layers) (cells_of_grid step n layers t)
  unfolding mesh walk cells_of_grid
  cells-related t r = (times-kept (λ z. K z 0 0) _ _ layers (λ z a b lz p. one-layer z a b lz p) (empty []) t (record { met = met_start g n layers; rel = r })).rel

-- ---- the count

record Counted (s : Mesh (List Edge)) (t : Count) : Type 0 where
  made : t.made ≡ length s.made
  written : t.written ≡ length s.indices

module _ (g : Inside) (n layers : ℕ) where
  counted-steps : CellSteps g n layers (count_cell g) (λ z. Counted)
  unfolding cell_new
  counted-steps =
      record {
        cell = λ z y x s t lz ly lx m p.
            let new : List ℕ = cell_new g x y z in
            let c = cell-by-ownership g n layers z y x lz ly lx s m in
            record {
              made =
                  ap (λ (k : ℕ). k + length new) p.made ∙ ap (λ (k : ℕ). length s.made + k) (sym (length-map new (visit_at x y z)))
                  ∙ sym (ap (λ (o : Mesh (List Edge)). length o.made) c ∙ length-append s.made (map (visit_at x y z) new));
              written =
                  ap (λ (k : ℕ). k + length (cell_edges g x y z)) p.written
                  ∙ ap (λ (k : ℕ). length s.indices + k) (sym (length-map (cell_edges g x y z) _))
                  ∙ sym (ap (λ (o : Mesh (List Edge)). length o.indices) c ∙ length-append s.indices (numbers x y z (s.memory ++ map (key x y z) new) (cell_edges g x y z)));
            };
        layer_end = λ z s t lz m p. p;
      }

  -- V and I by the lengths of two lists for each cell
  pub count-cells : cells_of_grid (count_cell g) n layers (record { made = 0; written = 0 })
      ≡ record { made = length (mesh joined [] g n layers).made; written = length (mesh joined [] g n layers).indices }
  count-cells =
      let c = cells-related g n layers (count_cell g) (λ z. Counted) counted-steps (record { made = 0; written = 0 }) (record { made = refl; written = refl }) in
      ap₂ (λ (v i : ℕ). record { made = v; written = i }) c.made c.written
