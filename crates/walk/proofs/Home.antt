-- The first cell of the walk that has a grid edge, its home, and which of its twelve edges a cell is the home of: that follows from x = 0, y = 0
-- and z = 0 alone.
use mathlib.Core.Path.{◌≡◌, ap, ◌∙◌}
use mathlib.Core.Bool.{Bool, true, false, cond, ◌&&◌, ◌||◌, beq, or-true}
use Prim.Native.Nat.{ℕ, ◌+◌, ◌-◌, ◌<◌, ◌≤◌}
use mathlib.Core.Logic.{⊎_elim}
use native.Mathlib.Decide.{dec_lt}
use native.Mathlib.Omega.{arith}
use lib.Dec.{T, eqb}
use borrow.Author.Tests.{eqb-true, eq-eqb}
use Rattle.marching_cubes_tables.specs.Tables.{corners, edge_connection}
use Rattle.marching_cubes_tables.proofs.Tests.{beq-eq}
use Rattle.walk.specs.Edges.{Edge, axis_of, low_offset, edge_of, reach}
use Rattle.walk.specs.Ownership.{owned}
use Rattle.walk.proofs.Bools.{and_left, and_right, or_split, iff-eq}
use Rattle.walk.proofs.Below.{all_below, all_below-at}
use Rattle.walk.proofs.TwelveEdges.{edge_number, high_offset, cell_edge, edge-placed}
use Rattle.walk.proofs.GridEdges.{edge-ext, visit_at, InBox}
use Rattle.walk.proofs.Rank.{rank, rank_mono, rank-injective}

-- the cell before the end of the edge, along each axis
abbrev pub home_x : Edge → ℕ
home_x k = k.x + reach k.axis 0 - 1

abbrev pub home_y : Edge → ℕ
home_y k = k.y + reach k.axis 1 - 1

abbrev pub home_z : Edge → ℕ
home_z k = k.z + reach k.axis 2 - 1

unfoldable pub home : ℕ → Edge → ℕ
home m k = rank m (home_x k) (home_y k) (home_z k)

low_of : (x y z e : ℕ) → e < 12
    → (home_x (edge_of (visit_at x y z e)) ≤ x) × (home_y (edge_of (visit_at x y z e)) ≤ y) × (home_z (edge_of (visit_at x y z e)) ≤ z)
unfolding edge_of
low_of x y z e h =
    let c = cell_edge e h in
    let a = c.high_le 0 (omega arith) in
    let b = c.high_le 1 (omega arith) in
    let d = c.high_le 2 (omega arith) in
    (omega arith, omega arith, omega arith)

-- no cell that has the edge comes before its home
pub home-le : (m x y z e : ℕ) → e < 12 → home m (edge_of (visit_at x y z e)) ≤ rank m x y z
unfolding home
home-le m x y z e h = let l = low_of x y z e h in rank_mono m x y z _ _ _ l.0 l.1 l.2

-- ---- which edges a cell is the home of

-- no cell before (x, y, z) has its edge e
abbrev pub owns : ℕ → ℕ → ℕ → ℕ → Bool
owns x y z e = owned (eqb x 0) (eqb y 0) (eqb z 0) e

abbrev by_ends : Bool → Bool → Bool → ℕ → Bool
by_ends x0 y0 z0 e = (x0 || eqb (high_offset e 0) 1) && ((y0 || eqb (high_offset e 1) 1) && (z0 || eqb (high_offset e 2) 1))

abbrev agree : Bool → Bool → Bool → Bool
agree x0 y0 z0 = all_below 12 (λ e. beq (by_ends x0 y0 z0 e) (owned x0 y0 z0 e))

agrees : (x0 y0 z0 : Bool) → T (agree x0 y0 z0)
unfolding axis_of low_offset corners edge_connection owned
agrees true true true = tt
agrees true true false = tt
agrees true false true = tt
agrees true false false = tt
agrees false true true = tt
agrees false true false = tt
agrees false false true = tt
agrees false false false = tt

-- along one axis: the edge ends past the cell's low face, or there is no cell before
stays : (x low high : ℕ) → low + high ≤ 1 → eqb (x + low + high - 1) x ≡ (eqb x 0 || eqb (low + high) 1)
stays x low high h =
    iff-eq (eqb (x + low + high - 1) x) (eqb x 0 || eqb (low + high) 1)
    (λ t.
    let e = eqb-true (x + low + high - 1) x t in
    elim (dec_lt 0 x) [
      | yes p ↦ ap (λ (b : Bool). eqb x 0 || b) (eq-eqb (low + high) 1 (omega arith)) ∙ or-true (eqb x 0)
      | no p ↦ ap (λ (b : Bool). b || eqb (low + high) 1) (eq-eqb x 0 (omega arith))
    ])
    (λ t.
    ⊎_elim
    (λ (p : eqb x 0 ≡ true). let e = eqb-true x 0 p in eq-eqb (x + low + high - 1) x (omega arith))
    (λ (p : eqb (low + high) 1 ≡ true). let e = eqb-true (low + high) 1 p in eq-eqb (x + low + high - 1) x (omega arith))
    (or_split (eqb x 0) (eqb (low + high) 1) t))

at_home : (x y z e : ℕ) → e < 12
    → (eqb (home_x (edge_of (visit_at x y z e))) x && (eqb (home_y (edge_of (visit_at x y z e))) y && eqb (home_z (edge_of (visit_at x y z e))) z)) ≡ owns x y z e
unfolding edge_of
at_home x y z e h =
    let c = cell_edge e h in
    rw (
      stays x (low_offset e 0) (reach (axis_of e) 0) (c.high_le 0 (omega arith)),
      stays y (low_offset e 1) (reach (axis_of e) 1) (c.high_le 1 (omega arith)),
      stays z (low_offset e 2) (reach (axis_of e) 2) (c.high_le 2 (omega arith)),
    )
    (beq-eq _ _ (all_below-at 12 (λ i. beq (by_ends (eqb x 0) (eqb y 0) (eqb z 0) i) (owned (eqb x 0) (eqb y 0) (eqb z 0) i)) (agrees (eqb x 0) (eqb y 0) (eqb z 0)) e h))

pub home-owned : (m x y z e : ℕ) → x < m → y < m → e < 12 → eqb (home m (edge_of (visit_at x y z e))) (rank m x y z) ≡ owns x y z e
unfolding home
home-owned m x y z e p q h =
    let k = edge_of (visit_at x y z e) in
    let a = eqb (home_x k) x in
    let b = eqb (home_y k) y in
    let c = eqb (home_z k) z in
    iff-eq (eqb (rank m (home_x k) (home_y k) (home_z k)) (rank m x y z)) (a && (b && c))
    (λ t.
    let l = low_of x y z e h in
    let r = rank-injective m x y z (home_x k) (home_y k) (home_z k) p q (omega (arith, l.0)) (omega (arith, l.1)) (eqb-true _ _ t) in
    rw (eq-eqb (home_x k) x r.0, eq-eqb (home_y k) y r.1, eq-eqb (home_z k) z r.2))
    (λ t.
    let u : (b && c) ≡ true = and_right a (b && c) t in
    eq-eqb (rank m (home_x k) (home_y k) (home_z k)) (rank m x y z)
    (ap (λ (i : ℕ). rank m i (home_y k) (home_z k)) (eqb-true (home_x k) x (and_left a (b && c) t))
    ∙ ap (λ (i : ℕ). rank m x i (home_z k)) (eqb-true (home_y k) y (and_left b c u))
    ∙ ap (λ (i : ℕ). rank m x y i) (eqb-true (home_z k) z (and_right b c u))))
    ∙ at_home x y z e h

-- ---- an edge of the box is an edge of its home

pub record AtHome (n layers : ℕ) (k : Edge) : Type 0 where
  pub x_lt : home_x k < n - 1
  pub y-lt : home_y k < n - 1
  pub z-lt : home_z k < layers
  pub edge : ℕ
  pub edge-lt : edge < 12
  pub is : edge_of (visit_at (home_x k) (home_y k) (home_z k) edge) ≡ k

reach-le : (a i : ℕ) → reach a i ≤ 1
reach-le a i = at (eqb a i)
  where
    at : (b : Bool) → cond b 1 0 ≤ 1
    at true = omega arith
    at false = omega arith

pub box-home : (n layers : ℕ) (k : Edge) → 2 ≤ n → 1 ≤ layers → InBox n layers k → AtHome n layers k
unfolding edge_of
box-home n layers k hn hl b =
    let a = k.axis in
    let rx = reach-le a 0 in
    let ry = reach-le a 1 in
    let rz = reach-le a 2 in
    let bx = b.x_lt in
    let by = b.y-lt in
    let bz = b.z-le in
    let p = edge-placed a (k.x - home_x k) (k.y - home_y k) (k.z - home_z k) b.axis-lt (omega arith) (omega arith) (omega arith) in
    let px = p.low_x in
    let py = p.low-y in
    let pz = p.low-z in
    record {
      x_lt = omega arith;
      y-lt = omega arith;
      z-lt = omega arith;
      edge = edge_number a (k.x - home_x k) (k.y - home_y k) (k.z - home_z k);
      edge-lt = p.lt;
      is = edge-ext _ k p.axis (omega arith) (omega arith) (omega arith);
    }
