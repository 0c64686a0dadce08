-- Demand 3 for every vertex: on an edge between any two neighbouring samples in either order, and on each edge of each cell by the tables'
-- own ends, from two samples or out of a list of them.
use mathlib.Core.Path.{◌≡◌, refl, sym}
use mathlib.Core.Logic.{inl, inr}
use mathlib.Core.Bool.{Bool, true, ◌&&◌}
use mathlib.Core.List.{List, [], ◌∷◌}
use Prim.Native.Nat.{ℕ, zero, suc, ◌+◌, ◌*◌, ◌≤◌, ◌<◌, zero-le}
use native.Mathlib.Nat.{lt_of_lt_of_le, le_of_eq, mul-le-mul_right}
use native.Mathlib.Omega.{arith}
use lib.Dec.{T, leb, leb→le, lit≤, lit<}
use lib.ListN.{length, get_or}
use lib.Ieee.{Float, le, fits}
use Rattle.marching_cubes_tables.specs.Tables.{corners, corner_offset, edge_end}
use Rattle.marching_cubes_tables.proofs.Tests.{both_left, both_right}
use Rattle.marching_cubes_impl.specs.Sample.{good, inside}
use Rattle.marching_cubes_impl.specs.Edge.{crosses}
use Rattle.positions.specs.Position.{step_of, GridPoint, sample_at, point_of, vertex_between, vertex_of, end_of, position_of}
use Rattle.positions.specs.Crossing.{NearCrossing, Crossed, InGrid, Beside, Neighbours, GoodGrid}
use Rattle.positions.proofs.Bound.{coordinate-within}
use Rattle.positions.proofs.Believable.{minus_one, three}

-- ---- between neighbours

pub vertex-near : (n layers : ℕ) (p q : GridPoint) (a b : Float) → 2 ≤ n → n ≤ 512 → layers ≤ n + 1
    → InGrid n layers p
    → InGrid n layers q
    → Neighbours p q
    → Crossed a b
    → NearCrossing n p q a b (vertex_of n p q a b)
vertex-near n layers p q a b least most upto first second beside crossed =
    record {
      near-x = coordinate-within n p.x q.x a b least most (below first.in-x) (below second.in-x) crossed beside.beside-x;
      near-y = coordinate-within n p.y q.y a b least most (below first.in-y) (below second.in-y) crossed beside.beside-y;
      near-z = coordinate-within n p.z q.z a b least most (top first.in-z) (top second.in-z) crossed beside.beside-z;
    }
  where
    below : {k : ℕ} → k < n → k ≤ n
    below h = omega arith

    top : {k : ℕ} → k < layers → k ≤ n
    top h = omega arith

-- ---- the ends of a cell's edges

bits : List ℕ → Bool
bits [] = true
bits (b ∷ bs) = leb b 1 && bits bs

rows_of_bits : List (List ℕ) → Bool
unfolding bits
rows_of_bits [] = true
rows_of_bits (r ∷ rs) = bits r && rows_of_bits rs

bits_at : (r : List ℕ) → T (bits r) → (axis : ℕ) → get_or r axis 0 ≤ 1
unfolding bits
bits_at [] t axis = zero-le
bits_at (b ∷ bs) t zero = leb→le b 1 (both_left (leb b 1) (bits bs) t)
bits_at (b ∷ bs) t (suc axis) = bits_at bs (both_right (leb b 1) (bits bs) t) axis

rows_at : (rs : List (List ℕ)) → T (rows_of_bits rs) → (c axis : ℕ) → get_or (get_or rs c []) axis 0 ≤ 1
unfolding rows_of_bits
rows_at [] t c axis = zero-le
rows_at (r ∷ rs) t zero axis = bits_at r (both_left (bits r) (rows_of_bits rs) t) axis
rows_at (r ∷ rs) t (suc c) axis = rows_at rs (both_right (bits r) (rows_of_bits rs) t) c axis

corners-bits : T (rows_of_bits corners)
unfolding corners rows_of_bits
corners-bits = tt

pub corner_offset-le : (c axis : ℕ) → corner_offset c axis ≤ 1
corner_offset-le c axis = rows_at corners corners-bits c axis

beside-of-bits : (x b c : ℕ) → b ≤ 1 → c ≤ 1 → Beside (x + b) (x + c)
beside-of-bits x zero zero h k = inl refl
beside-of-bits x zero (suc c) h k = inr (inl (omega arith))
beside-of-bits x (suc b) zero h k = inr (inr (omega arith))
beside-of-bits x (suc b) (suc c) h k = inl (omega arith)

-- what the code works out, from points that it has at hand
pub position-is : (n x y z e : ℕ) (a b : Float)
    → position_of n x y z e a b ≡ vertex_between (point_of (end_of x y z e 0) (step_of n)) (point_of (end_of x y z e 1) (step_of n)) a b
unfolding position_of
position-is n x y z e a b = refl

module _ (x y z e : ℕ) where
  pub ends-neighbours : Neighbours (end_of x y z e 0) (end_of x y z e 1)
  ends-neighbours =
      record {
        beside-x = along x _;
        beside-y = along y _;
        beside-z = along z _;
      }
    where
      along : (x axis : ℕ) → Beside (x + corner_offset (edge_end e 0) axis) (x + corner_offset (edge_end e 1) axis)
      along x axis =
          let first = edge_end e 0 in
          let second = edge_end e 1 in
          beside-of-bits x (corner_offset first axis) (corner_offset second axis) (corner_offset-le first axis) (corner_offset-le second axis)

  module _ (n layers : ℕ) (in-x : x + 1 < n) (in-y : y + 1 < n) (in-z : z + 1 < layers) where
    pub end-in-grid : (end : ℕ) → InGrid n layers (end_of x y z e end)
    end-in-grid end =
        record {
          in-x = corner x n _ in-x;
          in-y = corner y n _ in-y;
          in-z = corner z layers _ in-z;
        }
      where
        corner : (x m axis : ℕ) → x + 1 < m → x + corner_offset (edge_end e end) axis < m
        corner x m axis h = let bit = corner_offset-le (edge_end e end) axis in omega arith

    -- every coordinate of the vertex on any edge of any cell is finite, not -0.0, and within 2 ^ -20 of the exact crossing
    pub position-near : (a b : Float) → 2 ≤ n → n ≤ 512 → layers ≤ n + 1 → Crossed a b
        → NearCrossing n (end_of x y z e 0) (end_of x y z e 1) a b (position_of n x y z e a b)
    unfolding position_of
    position-near a b least most upto crossed =
        vertex-near n layers (end_of x y z e 0) (end_of x y z e 1) a b least most upto (end-in-grid 0) (end-in-grid 1) ends-neighbours crossed

-- ---- out of a list of samples

place-lt : (n layers x y z : ℕ) → x < n → y < n → z < layers → (z * n + y) * n + x < n * n * layers
place-lt n layers x y z hx hy hz =
    let a : (z + 1) * n ≤ layers * n = mul-le-mul_right n (omega arith) in
    let b : (z * n + y + 1) * n ≤ layers * n * n = mul-le-mul_right n (omega arith) in
    omega arith

module _ (n layers : ℕ) (samples : List Float) (grid : GoodGrid n layers samples) where
  abbrev at : GridPoint → Float
  at p = sample_at n samples p

  place_in : (p : GridPoint) → InGrid n layers p → (p.z * n + p.y) * n + p.x < length samples
  place_in p i = lt_of_lt_of_le (place-lt n layers p.x p.y p.z i.in-x i.in-y i.in-z) (le_of_eq (sym grid.whole))

  crossed-samples : (p q : GridPoint) → InGrid n layers p → InGrid n layers q → T (crosses (at p) (at q)) → Crossed (at p) (at q)
  crossed-samples p q first second c =
      record {
        first_fits = grid.all_fit _ (place_in p first);
        second_fits = grid.all_fit _ (place_in q second);
        first_good = grid.all-good _ (place_in p first);
        second-good = grid.all-good _ (place_in q second);
        crossed = c;
      }

  upto : layers ≤ n + 1
  upto = let most = grid.layers-most in omega arith

  pub vertex-of-samples-near : (p q : GridPoint) → InGrid n layers p → InGrid n layers q → Neighbours p q → T (crosses (at p) (at q))
      → NearCrossing n p q (at p) (at q) (vertex_of n p q (at p) (at q))
  vertex-of-samples-near p q first second beside c =
      vertex-near n layers p q (at p) (at q) grid.least grid.most upto first second beside (crossed-samples p q first second c)

  pub position-of-samples-near : (x y z e : ℕ) → x + 1 < n → y + 1 < n → z + 1 < layers
      → let p = end_of x y z e 0 in let q = end_of x y z e 1 in
      T (crosses (at p) (at q)) → NearCrossing n p q (at p) (at q) (position_of n x y z e (at p) (at q))
  unfolding position_of
  position-of-samples-near x y z e in-x in-y in-z c =
      let inside = end-in-grid x y z e n layers in-x in-y in-z in
      vertex-of-samples-near (end_of x y z e 0) (end_of x y z e 1) (inside 0) (inside 1) (ends-neighbours x y z e) c

-- ---- the conditions can be met: from -1.0 at x = 1 to 3.0 at x = 2, edge 0 of the cell 1, 0, 0 in a grid of size 5

example-crossed : Crossed minus_one three
unfolding good crosses inside le fits
example-crossed = record { first_fits = tt; second_fits = tt; first_good = tt; second-good = tt; crossed = tt }

example-near : NearCrossing 5 (end_of 1 0 0 0 0) (end_of 1 0 0 0 1) minus_one three (position_of 5 1 0 0 0 minus_one three)
example-near = position-near 1 0 0 0 5 6 (lit< tt) (lit< tt) (lit< tt) minus_one three (lit≤ tt) (lit≤ tt) (lit≤ tt) example-crossed
