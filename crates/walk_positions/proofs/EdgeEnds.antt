-- The two ends of a visit, as the tables order them, are the two samples of the grid edge that it names, in one order or the other: so demand 3
-- speaks of that edge.
use mathlib.Core.Path.{◌≡◌, sym, ap, ◌∙◌}
use mathlib.Core.Logic.{◌⊎◌, inl, inr, ⊎_elim}
use Prim.Native.Nat.{ℕ, ◌+◌, ◌<◌}
use native.Mathlib.Nat.{add_assoc}
use native.Mathlib.Omega.{arith}
use Rattle.positions.specs.Position.{GridPoint, end_of}
use Rattle.walk.specs.Edges.{Edge, axis_of, low_offset, edge_of, reach}
use Rattle.walk.proofs.TwelveEdges.{Runs, cell_edge}
use Rattle.walk.proofs.GridEdges.{visit_at}

abbrev pub start_of : Edge → GridPoint
start_of k = record { x = k.x; y = k.y; z = k.z }

abbrev pub stop_of : Edge → GridPoint
stop_of k = record { x = k.x + reach k.axis 0; y = k.y + reach k.axis 1; z = k.z + reach k.axis 2 }

point-ext : {x y z u v w : ℕ} → x ≡ u → y ≡ v → z ≡ w → ◌≡◌ {A = GridPoint} (record { x = x; y = y; z = z }) (record { x = u; y = v; z = w })
point-ext {x} {y} {z} {u} {v} {w} p q r = rw (p, q, r)

module _ (x y z e : ℕ) where
  ordered : (s t : ℕ) → Runs e s t
      → (end_of x y z e s ≡ start_of (edge_of (visit_at x y z e))) × (end_of x y z e t ≡ stop_of (edge_of (visit_at x y z e)))
  unfolding edge_of
  ordered s t r = (
    point-ext (ap (λ (i : ℕ). x + i) (r.low 0 (omega arith))) (ap (λ (i : ℕ). y + i) (r.low 1 (omega arith))) (ap (λ (i : ℕ). z + i) (r.low 2 (omega arith))),
    point-ext
        (ap (λ (i : ℕ). x + i) (r.high 0 (omega arith)) ∙ sym (add_assoc x (low_offset e 0) (reach (axis_of e) 0)))
        (ap (λ (i : ℕ). y + i) (r.high 1 (omega arith)) ∙ sym (add_assoc y (low_offset e 1) (reach (axis_of e) 1)))
        (ap (λ (i : ℕ). z + i) (r.high 2 (omega arith)) ∙ sym (add_assoc z (low_offset e 2) (reach (axis_of e) 2))),
  )

  pub ends-of-edge : e < 12
      → ((end_of x y z e 0 ≡ start_of (edge_of (visit_at x y z e))) × (end_of x y z e 1 ≡ stop_of (edge_of (visit_at x y z e))))
      ⊎ ((end_of x y z e 1 ≡ start_of (edge_of (visit_at x y z e))) × (end_of x y z e 0 ≡ stop_of (edge_of (visit_at x y z e))))
  ends-of-edge h = ⊎_elim (λ r. inl (ordered 0 1 r)) (λ r. inr (ordered 1 0 r)) (cell_edge e h).ends
