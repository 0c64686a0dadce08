-- Why to believe the definitions of specs/: the exact crossing is where the straight line through the two samples is zero, whichever end
-- comes first; each edge of a cell runs one step along one axis; and the crossing of one edge is worked out.
use mathlib.Core.Path.{◌≡◌, refl, ap, ◌∙◌}
use mathlib.Core.Bool.{Bool, true, false, ◌||◌, beq}
use mathlib.Core.List.{List}
use Prim.Native.Nat.{ℕ, ◌+◌, ◌-◌, ◌*◌}
use native.Mathlib.Nat.{add_comm}
use native.Mathlib.Omega.{arith}
use lib.Dec.{T, eqb, ltb}
use lib.IntN.{pos}
use lib.Ieee.{Float, fin}
use Rattle.marching_cubes_tables.specs.Tables.{corners, edge_connection}
use Rattle.marching_cubes_tables.proofs.Rows.{every}
use Rattle.positions.specs.Position.{GridPoint, end_of}
use Rattle.positions.specs.Crossing.{Fraction, size_of, exact_crossing}

-- ---- similar triangles

-- The samples a at j and b at k, on two sides of zero, have the sizes A and B over one denominator. On an edge of i steps, counted in parts
-- of 1 / (A + B) of a step, the crossing c lies i * A parts from j and i * B parts from k: so the straight line from a to b is zero there.
module _ (n : ℕ) (a b : Float) where
  abbrev A : ℕ
  A = (size_of a).top * (size_of b).bottom

  abbrev B : ℕ
  B = (size_of b).top * (size_of a).bottom

  line-upward : (j i : ℕ) → let c = (exact_crossing n j (j + i) a b).top in (c ≡ j * (A + B) + i * A) × (c + i * B ≡ (j + i) * (A + B))
  unfolding exact_crossing
  line-upward j i = (omega arith, omega arith)

  line-downward : (k i : ℕ) → let c = (exact_crossing n (k + i) k a b).top in (c + i * A ≡ (k + i) * (A + B)) × (c ≡ k * (A + B) + i * B)
  unfolding exact_crossing
  line-downward k i = (omega arith, omega arith)

  -- along another axis it is the whole number itself
  line-still : (j : ℕ) → (exact_crossing n j j a b).top ≡ j * (A + B)
  unfolding exact_crossing
  line-still j = omega arith

  -- a grid of size n has n - 1 steps from 0 to 1
  line-steps : (j k : ℕ) → (exact_crossing n j k a b).bottom ≡ (n - 1) * (A + B)
  unfolding exact_crossing
  line-steps j k = refl

-- the crossing does not depend on which end comes first
crossing-turned : (n j k : ℕ) (a b : Float) → exact_crossing n j k a b ≡ exact_crossing n k j b a
unfolding exact_crossing
crossing-turned n j k a b =
    let A = (size_of a).top * (size_of b).bottom in
    let B = (size_of b).top * (size_of a).bottom in
    ap (fraction (A + B)) (add_comm (j * B) (k * A)) ∙ ap (λ (sum : ℕ). fraction sum (k * A + j * B)) (add_comm A B)
  where
    fraction : ℕ → ℕ → Fraction
    fraction sum top = record { top = top; bottom = (n - 1) * sum }

-- ---- the edges of a cell

distance : ℕ → ℕ → ℕ
distance j k = (j - k) + (k - j)

steps : GridPoint → GridPoint → ℕ
unfolding distance
steps p q = distance p.x q.x + distance p.y q.y + distance p.z q.z

-- each of the twelve edges of a cell runs one step along one axis
one-step : T (every (λ (e : ℕ) (ends : List ℕ). eqb (steps (end_of 1 2 3 e 0) (end_of 1 2 3 e 1)) 1) 0 edge_connection)
unfolding corners edge_connection steps distance
one-step = tt

-- and runs from high to low exactly where it is edge 2, 3, 6 or 7
abbrev runs_down : ℕ → Bool
runs_down e = eqb e 2 || eqb e 3 || eqb e 6 || eqb e 7

abbrev sum : GridPoint → ℕ
sum p = p.x + p.y + p.z

abbrev lowers : ℕ → Bool
lowers e = ltb (sum (end_of 1 2 3 e 1)) (sum (end_of 1 2 3 e 0))

high-to-low : T (every (λ (e : ℕ) (ends : List ℕ). beq (lowers e) (runs_down e)) 0 edge_connection)
unfolding corners edge_connection
high-to-low = tt

-- ---- one edge worked out: from -1.0 at x = 1 to 3.0 at x = 2, y = 0 and z = 0, in a grid of size 5

abbrev pub minus_one : Float
minus_one = fin true 1 (pos 0)

abbrev pub three : Float
three = fin false 3 (pos 0)

-- (1 * 3 + 2 * 1) / (4 * 4) along x, and 0 along y and z
example-x : exact_crossing 5 1 2 minus_one three ≡ record { top = 5; bottom = 16 }
unfolding exact_crossing
example-x = refl

example-y : exact_crossing 5 0 0 minus_one three ≡ record { top = 0; bottom = 16 }
unfolding exact_crossing
example-y = refl
