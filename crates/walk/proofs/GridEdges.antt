-- Grid edges as values: when two are the same, which ones the box has, and the one that each of the twelve edges of a cell is.
use mathlib.Core.Path.{◌≡◌, refl, sym, ap, ◌∙◌}
use mathlib.Core.Logic.{⊎_elim}
use mathlib.Core.Bool.{Bool, true, false, ◌&&◌, not, beq}
use Prim.Native.Nat.{ℕ, ◌+◌, ◌-◌, ◌<◌, ◌≤◌}
use native.Mathlib.Nat.{add_assoc, add_left_cancel}
use native.Mathlib.Omega.{arith}
use lib.Dec.{eqb, ltb, leb}
use borrow.Author.Tests.{eqb-true, eq-eqb, ltb-true, leb-true, lt-ltb, le-leb}
use Rattle.marching_cubes_tables.specs.Tables.{edge_end}
use Rattle.walk.specs.Walk.{Visit, Inside, corner_inside}
use Rattle.walk.specs.Edges.{Edge, axis_of, low_offset, edge_of, reach, crosses, in_box, same}
use Rattle.walk.proofs.Bools.{and_left, and_right, iff-eq}
use Rattle.walk.proofs.TwelveEdges.{Runs, cell_edge}

-- ---- equality

abbrev pub edge_at : ℕ → ℕ → ℕ → ℕ → Edge
edge_at a x y z = record { axis = a; x = x; y = y; z = z }

pub edge-ext : (k m : Edge) → k.axis ≡ m.axis → k.x ≡ m.x → k.y ≡ m.y → k.z ≡ m.z → k ≡ m
edge-ext k m p q r s =
    ap (λ (a : ℕ). edge_at a k.x k.y k.z) p
    ∙ ap (λ (x : ℕ). edge_at m.axis x k.y k.z) q
    ∙ ap (λ (y : ℕ). edge_at m.axis m.x y k.z) r
    ∙ ap (λ (z : ℕ). edge_at m.axis m.x m.y z) s

pub same_true : (k m : Edge) → same k m ≡ true → k ≡ m
unfolding same
same_true k m h =
    let a : Bool = eqb k.axis m.axis in
    let b : Bool = eqb k.x m.x in
    let c : Bool = eqb k.y m.y in
    let d : Bool = eqb k.z m.z in
    let t : (b && (c && d)) ≡ true = and_right a (b && (c && d)) h in
    let u : (c && d) ≡ true = and_right b (c && d) t in
    edge-ext k m (eqb-true _ _ (and_left a (b && (c && d)) h)) (eqb-true _ _ (and_left b (c && d) t)) (eqb-true _ _ (and_left c d u)) (eqb-true _ _ (and_right c d u))

pub same_refl : (k : Edge) → same k k ≡ true
unfolding same
same_refl k = simp (eq-eqb k.axis k.axis refl, eq-eqb k.x k.x refl, eq-eqb k.y k.y refl, eq-eqb k.z k.z refl)

pub same_of : (k m : Edge) → k ≡ m → same k m ≡ true
same_of k m e = ap (same k) (sym e) ∙ same_refl k

pub same-sym : (k m : Edge) → same k m ≡ same m k
same-sym k m = iff-eq (same k m) (same m k) (λ t. same_of m k (sym (same_true k m t))) (λ t. same_of k m (sym (same_true m k t)))

-- ---- the box

pub record InBox (n layers : ℕ) (k : Edge) : Type 0 where
  pub axis-lt : k.axis < 3
  pub x_lt : k.x + reach k.axis 0 < n
  pub y-lt : k.y + reach k.axis 1 < n
  pub z-le : k.z + reach k.axis 2 ≤ layers

pub in_box-says : (n layers : ℕ) (k : Edge) → in_box n layers k ≡ true → InBox n layers k
unfolding in_box
in_box-says n layers k h =
    let a : Bool = ltb k.axis 3 in
    let b : Bool = ltb (k.x + reach k.axis 0) n in
    let c : Bool = ltb (k.y + reach k.axis 1) n in
    let d : Bool = leb (k.z + reach k.axis 2) layers in
    let t : (b && (c && d)) ≡ true = and_right a (b && (c && d)) h in
    let u : (c && d) ≡ true = and_right b (c && d) t in
    record {
      axis-lt = ltb-true _ _ (and_left a (b && (c && d)) h);
      x_lt = ltb-true _ _ (and_left b (c && d) t);
      y-lt = ltb-true _ _ (and_left c d u);
      z-le = leb-true _ _ (and_right c d u);
    }

pub in_box-of : (n layers : ℕ) (k : Edge) → InBox n layers k → in_box n layers k ≡ true
unfolding in_box
in_box-of n layers k b =
    rw (lt-ltb k.axis 3 b.axis-lt, lt-ltb (k.x + reach k.axis 0) n b.x_lt, lt-ltb (k.y + reach k.axis 1) n b.y-lt, le-leb (k.z + reach k.axis 2) layers b.z-le)

-- ---- the edges of a cell

abbrev pub visit_at : ℕ → ℕ → ℕ → ℕ → Visit
visit_at x y z e = record { x = x; y = y; z = z; edge = e }

module _ (x y z e : ℕ) (h : e < 12) where
  pub edge_of-in_box : (n layers : ℕ) → x < n - 1 → y < n - 1 → z < layers → InBox n layers (edge_of (visit_at x y z e))
  unfolding edge_of
  edge_of-in_box n layers hx hy hz =
      let c = cell_edge e h in
      let a = c.high_le 0 (omega arith) in
      let b = c.high_le 1 (omega arith) in
      let d = c.high_le 2 (omega arith) in
      record { axis-lt = c.axis-lt; x_lt = omega arith; y-lt = omega arith; z-le = omega arith }

  ends_at : (g : Inside) (s t : ℕ) → Runs e s t
      → crosses g (edge_of (visit_at x y z e)) ≡ not (beq (corner_inside g x y z (edge_end e s)) (corner_inside g x y z (edge_end e t)))
  unfolding edge_of crosses
  ends_at g s t r =
      rw (
        r.low 0 (omega arith),
        r.low 1 (omega arith),
        r.low 2 (omega arith),
        r.high 0 (omega arith),
        r.high 1 (omega arith),
        r.high 2 (omega arith),
        add_assoc x (low_offset e 0) (reach (axis_of e) 0),
        add_assoc y (low_offset e 1) (reach (axis_of e) 1),
        add_assoc z (low_offset e 2) (reach (axis_of e) 2),
      )

  -- its ends are the two corners that the table of edges gives it, in one order or the other
  pub edge_of-crosses : (g : Inside)
      → crosses g (edge_of (visit_at x y z e)) ≡ not (beq (corner_inside g x y z (edge_end e 0)) (corner_inside g x y z (edge_end e 1)))
  edge_of-crosses g =
      ⊎_elim (λ r. ends_at g 0 1 r) (λ r. ends_at g 1 0 r ∙ ap not (beq-comm (corner_inside g x y z (edge_end e 1)) (corner_inside g x y z (edge_end e 0)))) (cell_edge e h).ends
    where
      beq-comm : (a b : Bool) → beq a b ≡ beq b a
      beq-comm true true = refl
      beq-comm true false = refl
      beq-comm false true = refl
      beq-comm false false = refl

-- the grid edge tells which edge of the cell it is
pub edge_of-injective : (x y z d e : ℕ) → d < 12 → e < 12 → edge_of (visit_at x y z d) ≡ edge_of (visit_at x y z e) → d ≡ e
unfolding edge_of
edge_of-injective x y z d e hd he q =
    let a : axis_of d ≡ axis_of e = ap (λ (k : Edge). k.axis) q in
    let i : low_offset d 0 ≡ low_offset e 0 = add_left_cancel x (ap (λ (k : Edge). k.x) q) in
    let j : low_offset d 1 ≡ low_offset e 1 = add_left_cancel y (ap (λ (k : Edge). k.y) q) in
    let k : low_offset d 2 ≡ low_offset e 2 = add_left_cancel z (ap (λ (k : Edge). k.z) q) in
    sym (cell_edge d hd).numbered ∙ rw (a, i, j, k) (cell_edge e he).numbered

pub edge_of-same : (x y z d e : ℕ) → d < 12 → e < 12 → same (edge_of (visit_at x y z d)) (edge_of (visit_at x y z e)) ≡ eqb d e
edge_of-same x y z d e hd he =
    iff-eq (same (edge_of (visit_at x y z d)) (edge_of (visit_at x y z e))) (eqb d e)
    (λ t. eq-eqb d e (edge_of-injective x y z d e hd he (same_true (edge_of (visit_at x y z d)) (edge_of (visit_at x y z e)) t)))
    (λ t. same_of (edge_of (visit_at x y z d)) (edge_of (visit_at x y z e)) (ap (λ (i : ℕ). edge_of (visit_at x y z i)) (eqb-true d e t)))
