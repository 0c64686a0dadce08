-- The twelve edges of a cell, by one test that is computed from the tables of corners and edges: where the two corners of each lie, and that the
-- axis and the place of the lower corner tell which edge it is.
use mathlib.Core.Path.{◌≡◌}
use mathlib.Core.Logic.{◌⊎◌, inl, inr, ⊎_elim}
use mathlib.Core.Bool.{Bool, true, false, cond, ◌&&◌, ◌||◌, not, false≢true}
use Prim.Native.Nat.{ℕ, zero, suc, ◌+◌, ◌<◌, ◌≤◌}
use native.Mathlib.Omega.{arith}
use lib.Dec.{T, eqb, ltb, leb, eqb→eq, ltb→lt, leb→le}
use borrow.Author.Tests.{le-leb}
use Rattle.marching_cubes_tables.specs.Tables.{corners, edge_connection, corner_offset, edge_end}
use Rattle.marching_cubes_tables.proofs.Tests.{both_left, both_right}
use Rattle.walk.specs.Edges.{axis_of, low_offset, reach}
use Rattle.walk.proofs.Below.{all_below, all_below-at}

-- how far along the axis i the upper corner of edge e lies
abbrev pub high_offset : ℕ → ℕ → ℕ
high_offset e i = low_offset e i + reach (axis_of e) i

-- ---- the ends, and which of the two comes first

abbrev runs_at : ℕ → ℕ → ℕ → ℕ → Bool
runs_at e s t i = eqb (corner_offset (edge_end e s) i) (low_offset e i) && eqb (corner_offset (edge_end e t) i) (high_offset e i)

abbrev runs : ℕ → ℕ → ℕ → Bool
runs e s t = all_below 3 (runs_at e s t)

-- end s of the edge is its lower corner, end t its upper
pub record Runs (e s t : ℕ) : Type 0 where
  pub low : (i : ℕ) → i < 3 → corner_offset (edge_end e s) i ≡ low_offset e i
  pub high : (i : ℕ) → i < 3 → corner_offset (edge_end e t) i ≡ high_offset e i

runs_of : (e s t : ℕ) → T (runs e s t) → Runs e s t
runs_of e s t h =
    record {
      low = λ i l.
          eqb→eq _ _ (both_left (eqb (corner_offset (edge_end e s) i) (low_offset e i)) (eqb (corner_offset (edge_end e t) i) (high_offset e i)) (all_below-at 3 (runs_at e s t) h i l));
      high = λ i l.
          eqb→eq _ _ (both_right (eqb (corner_offset (edge_end e s) i) (low_offset e i)) (eqb (corner_offset (edge_end e t) i) (high_offset e i)) (all_below-at 3 (runs_at e s t) h i l));
    }

-- ---- which edge it is

abbrev first : (ℕ → Bool) → ℕ → ℕ → ℕ
first f zero e = e
first f (suc k) e = cond (f e) e (first f k (suc e))

-- the edge along the axis a whose lower corner lies at (x, y, z)
unfoldable pub edge_number : ℕ → ℕ → ℕ → ℕ → ℕ
edge_number a x y z = first (λ e. eqb (axis_of e) a && (eqb (low_offset e 0) x && (eqb (low_offset e 1) y && eqb (low_offset e 2) z))) 12 0

-- ---- the test over the twelve

abbrev right : ℕ → Bool
right e =
    ltb (axis_of e) 3
    && (all_below 3 (λ i. leb (high_offset e i) 1)
    && (ltb (edge_end e 0) 8 && (ltb (edge_end e 1) 8
    && (eqb (edge_number (axis_of e) (low_offset e 0) (low_offset e 1) (low_offset e 2)) e && (runs e 0 1 || runs e 1 0)))))

twelve : T (all_below 12 right)
unfolding axis_of low_offset corners edge_connection edge_number
twelve = tt

pub record CellEdge (e : ℕ) : Type 0 where
  pub axis-lt : axis_of e < 3
  pub high_le : (i : ℕ) → i < 3 → high_offset e i ≤ 1
  pub first-corner : edge_end e 0 < 8
  pub second-corner : edge_end e 1 < 8
  pub numbered : edge_number (axis_of e) (low_offset e 0) (low_offset e 1) (low_offset e 2) ≡ e
  pub ends : Runs e 0 1 ⊎ Runs e 1 0

either : (a b : Bool) → T (a || b) → T a ⊎ T b
either true b t = inl tt
either false b t = inr t

pub cell_edge : (e : ℕ) → e < 12 → CellEdge e
cell_edge e h =
    let t = all_below-at 12 right twelve e h in
    let b1 = ltb (axis_of e) 3 in
    let b2 = all_below 3 (λ i. leb (high_offset e i) 1) in
    let b3 = ltb (edge_end e 0) 8 in
    let b4 = ltb (edge_end e 1) 8 in
    let b5 = eqb (edge_number (axis_of e) (low_offset e 0) (low_offset e 1) (low_offset e 2)) e in
    let b6 = runs e 0 1 || runs e 1 0 in
    let t2 : T (b2 && (b3 && (b4 && (b5 && b6)))) = both_right b1 (b2 && (b3 && (b4 && (b5 && b6)))) t in
    let t3 : T (b3 && (b4 && (b5 && b6))) = both_right b2 (b3 && (b4 && (b5 && b6))) t2 in
    let t4 : T (b4 && (b5 && b6)) = both_right b3 (b4 && (b5 && b6)) t3 in
    let t5 : T (b5 && b6) = both_right b4 (b5 && b6) t4 in
    record {
      axis-lt = ltb→lt (axis_of e) 3 (both_left b1 (b2 && (b3 && (b4 && (b5 && b6)))) t);
      high_le = λ i l. leb→le (high_offset e i) 1 (all_below-at 3 (λ i. leb (high_offset e i) 1) (both_left b2 (b3 && (b4 && (b5 && b6))) t2) i l);
      first-corner = ltb→lt (edge_end e 0) 8 (both_left b3 (b4 && (b5 && b6)) t3);
      second-corner = ltb→lt (edge_end e 1) 8 (both_left b4 (b5 && b6) t4);
      numbered = eqb→eq _ e (both_left b5 b6 t5);
      ends = ⊎_elim (λ u. inl (runs_of e 0 1 u)) (λ u. inr (runs_of e 1 0 u)) (either (runs e 0 1) (runs e 1 0) (both_right b5 b6 t5));
    }

-- ---- each axis and each place of a lower corner that leaves the upper one in the cell has its edge

abbrev fits : ℕ → ℕ → ℕ → ℕ → Bool
fits a x y z = leb (x + reach a 0) 1 && (leb (y + reach a 1) 1 && leb (z + reach a 2) 1)

abbrev there : ℕ → ℕ → ℕ → ℕ → ℕ → Bool
there a x y z e = ltb e 12 && (eqb (axis_of e) a && (eqb (low_offset e 0) x && (eqb (low_offset e 1) y && eqb (low_offset e 2) z)))

abbrev placed : ℕ → ℕ → ℕ → ℕ → Bool
placed a x y z = not (fits a x y z) || there a x y z (edge_number a x y z)

all_placed : T (all_below 3 (λ a. all_below 2 (λ x. all_below 2 (λ y. all_below 2 (placed a x y)))))
unfolding axis_of low_offset corners edge_connection edge_number
all_placed = tt

pub record Placed (a x y z : ℕ) : Type 0 where
  pub lt : edge_number a x y z < 12
  pub axis : axis_of (edge_number a x y z) ≡ a
  pub low_x : low_offset (edge_number a x y z) 0 ≡ x
  pub low-y : low_offset (edge_number a x y z) 1 ≡ y
  pub low-z : low_offset (edge_number a x y z) 2 ≡ z

modus : (a b : Bool) → a ≡ true → T (not a || b) → T b
modus true b h t = t
modus false b h t = absurd (false≢true h)

pub edge-placed : (a x y z : ℕ) → a < 3 → x + reach a 0 ≤ 1 → y + reach a 1 ≤ 1 → z + reach a 2 ≤ 1 → Placed a x y z
edge-placed a x y z ha hx hy hz =
    let e = edge_number a x y z in
    let t1 = all_below-at 3 (λ a. all_below 2 (λ x. all_below 2 (λ y. all_below 2 (placed a x y)))) all_placed a ha in
    let t2 = all_below-at 2 (λ x. all_below 2 (λ y. all_below 2 (placed a x y))) t1 x (omega arith) in
    let t3 = all_below-at 2 (λ y. all_below 2 (placed a x y)) t2 y (omega arith) in
    let t4 = all_below-at 2 (placed a x y) t3 z (omega arith) in
    let f : fits a x y z ≡ true = rw (le-leb (x + reach a 0) 1 hx, le-leb (y + reach a 1) 1 hy, le-leb (z + reach a 2) 1 hz) in
    let t = modus (fits a x y z) (there a x y z e) f t4 in
    let b1 = ltb e 12 in
    let b2 = eqb (axis_of e) a in
    let b3 = eqb (low_offset e 0) x in
    let b4 = eqb (low_offset e 1) y in
    let b5 = eqb (low_offset e 2) z in
    let u2 : T (b2 && (b3 && (b4 && b5))) = both_right b1 (b2 && (b3 && (b4 && b5))) t in
    let u3 : T (b3 && (b4 && b5)) = both_right b2 (b3 && (b4 && b5)) u2 in
    let u4 : T (b4 && b5) = both_right b3 (b4 && b5) u3 in
    record {
      lt = ltb→lt e 12 (both_left b1 (b2 && (b3 && (b4 && b5))) t);
      axis = eqb→eq _ _ (both_left b2 (b3 && (b4 && b5)) u2);
      low_x = eqb→eq _ _ (both_left b3 (b4 && b5) u3);
      low-y = eqb→eq _ _ (both_left b4 b5 u4);
      low-z = eqb→eq _ _ (both_right b4 b5 u4);
    }
