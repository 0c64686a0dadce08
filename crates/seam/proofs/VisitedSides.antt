-- The triangles of a mesh, as the grid edges that the walk visits in threes: their sides are counted cell by cell.
use mathlib.Core.Path.{◌≡◌, sym, ap, ◌∙◌, subst}
use mathlib.Core.List.{List, [], ◌∷◌, ◌++◌, map, map-append, map-map, append_assoc, append-nil}
use Prim.Native.Nat.{ℕ, zero, suc, ◌+◌, ◌-◌}
use native.Mathlib.Nat.{zero-add}
use native.Mathlib.Omega.{arith}
use lib.Dec.{T}
use Rattle.walk.specs.Walk.{Visit, Inside, times, cell_edges, cell, cells, rows, walk, listing, visits}
use Rattle.walk.specs.Edges.{Edge, edge_of, same}
use Rattle.walk.proofs.GridEdges.{visit_at}
use Rattle.walk.proofs.CellEdges.{cell_edges-threes}
use Rattle.walk.proofs.OwnedCells.{fold, times-fold}
use Rattle.seam.specs.FaceRule.{sides}
use Rattle.seam.proofs.Sides.{count, count-append, threes, threes-of-length, threes-append, threes-map, sides-append}
use Rattle.seam.proofs.Sums.{sum, sum_cells}
use Rattle.seam.proofs.Squares.{cell_names, in_cell}

-- ---- one cell

fold-snoc : {A B : Type 0} (f : A → B) (l : List A) (t : List B) → fold (λ a t. t ++ (f a ∷ [])) l t ≡ t ++ map f l
unfolding fold
fold-snoc f [] t = sym (append-nil t)
fold-snoc f (a ∷ l) t = fold-snoc f l (t ++ (f a ∷ [])) ∙ append_assoc t (f a ∷ []) (map f l)

cell-listed : (g : Inside) (n z y x : ℕ) (t : List Visit) → cell listing g n z y x t ≡ t ++ map (visit_at x y z) (cell_edges g x y z)
unfolding cell listing
cell-listed g n z y x t =
    times-fold (λ e u. u ++ (visit_at x y z e ∷ [])) 0 (cell_edges g x y z) t ∙ fold-snoc (visit_at x y z) (cell_edges g x y z) t

-- ---- all cells

module _ (g : Inside) (n : ℕ) (a b : Edge) where
  abbrev pub between : List Visit → ℕ
  between t = count same a b (sides (map edge_of t))

  -- u is t and whole triangles more, so many of whose sides run from a to b
  record Adds (t u : List Visit) (more : ℕ) : Type 0 where
    whole : T (threes u)
    adds : between u ≡ between t + more

  times-adds : (f : ℕ → List Visit → List Visit) (more : ℕ → ℕ) → ((i : ℕ) (t : List Visit) → T (threes t) → Adds t (f i t) (more i))
      → (k : ℕ) (t : List Visit) → T (threes t) → Adds t (times k f t) (sum k more)
  unfolding times sum
  times-adds f more e zero t h = record { whole = h; adds = omega arith }
  times-adds f more e (suc k) t h =
      let r = times-adds f more e k t h in
      let s = e k (times k f t) r.whole in
      let p = r.adds in
      let q = s.adds in
      record { whole = s.whole; adds = omega arith }

  cell-adds : (z y x : ℕ) (t : List Visit) → T (threes t) → Adds t (cell listing g n z y x t) (in_cell g a b x y z)
  cell-adds z y x t h =
      let new = map (visit_at x y z) (cell_edges g x y z) in
      let e : cell listing g n z y x t ≡ t ++ new = cell-listed g n z y x t in
      let w : T (threes new) = threes-map (visit_at x y z) (cell_edges g x y z) (threes-of-length (cell_edges g x y z) (cell_edges-threes g x y z)) in
      let names : map edge_of new ≡ cell_names g x y z = map-map edge_of (visit_at x y z) (cell_edges g x y z) in
      record {
        whole = subst (λ (u : List Visit). T (threes u)) (sym e) (threes-append t new h w);
        adds =
            ap between e
            ∙ ap (λ (u : List Edge). count same a b (sides u)) (map-append edge_of t new)
            ∙ ap (count same a b) (sides-append (map edge_of t) (map edge_of new) (threes-map edge_of t h))
            ∙ count-append same a b (sides (map edge_of t)) (sides (map edge_of new))
            ∙ ap (λ (u : List Edge). between t + count same a b (sides u)) names;
      }

  pub visits-sides : (layers : ℕ) → between (visits g n layers) ≡ sum_cells layers (n - 1) (in_cell g a b)
  unfolding visits walk rows cells listing sum_cells count sides
  visits-sides layers =
      (times-adds _ _ (λ z t h. times-adds _ _ (λ y t h. times-adds _ _ (λ x t h. cell-adds z y x t h) (n - 1) t h) (n - 1) t h) layers [] tt).adds
      ∙ zero-add (sum_cells layers (n - 1) (in_cell g a b))
