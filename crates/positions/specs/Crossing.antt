-- Where the surface exactly crosses a grid edge, and what it is for a vertex to be within 2 ^ -20 of that: demand 3, in whole numbers only.
-- `proofs/Believable.antt` says why to believe it, and `proofs/Edges.antt` proves it of every vertex.
use Rattle.std.specs.Prelude.{◌≡◌, ◌⊎◌, Bool, true, false, List, ℕ, ◌+◌, ◌-◌, ◌*◌, ◌^◌, ◌≤◌, ◌<◌, T, length, get_or, Float}
use Rattle.std.specs.Float.{nan, inf, fin, binary32}
use Rattle.std.specs.Float.Ieee.{up, down, fits}
use Rattle.marching_cubes_impl.specs.declared.vertex.Vertex.{Vertex}
use Rattle.marching_cubes_impl.specs.Sample.{good}
use Rattle.marching_cubes_impl.specs.Edge.{crosses}
use Rattle.positions.specs.Position.{GridPoint}

-- ---- the exact crossing

pub record Fraction : Type 0 where
  pub top : ℕ
  pub bottom : ℕ

-- the size of a finite value, its sign apart
abbrev pub size_of : Float → Fraction
size_of nan = record { top = 0; bottom = 1 }
size_of (inf s) = record { top = 0; bottom = 1 }
size_of (fin s m e) = record { top = m * up e; bottom = down e }

-- Over one denominator the sizes of a and b are as A to B, and a and b lie on two sides of zero. So the straight line from a at j to b at k
-- is zero where the distances to the two ends are as A to B: at (j * B + k * A) / (A + B) steps. A step of the grid is exactly 1 / (n - 1).
-- On an axis along which the edge does not run, j = k and this is j steps.
unfoldable pub exact_crossing : ℕ → ℕ → ℕ → Float → Float → Fraction
exact_crossing n j k a b =
    let A = (size_of a).top * (size_of b).bottom in
    let B = (size_of b).top * (size_of a).bottom in
    record { top = j * B + k * A; bottom = (n - 1) * (A + B) }

-- ---- within 2 ^ -20

-- a finite number whose sign bit is clear: no NaN, no infinity, and no -0.0
abbrev pub finite_plus : Float → Bool
finite_plus nan = false
finite_plus (inf s) = false
finite_plus (fin true m e) = false
finite_plus (fin false m e) = true

-- the distance that is allowed is 1 / 2 ^ 20
abbrev pub fineness : ℕ
fineness = 2 ^ 20

-- c - 1 / fineness ≤ x ≤ c + 1 / fineness, with the denominators multiplied out
pub record Within (x : Float) (c : Fraction) : Type 0 where
  pub fraction : 0 < c.bottom
  pub number : T (finite_plus x)
  pub not-above : (size_of x).top * c.bottom * fineness ≤ c.top * (size_of x).bottom * fineness + c.bottom * (size_of x).bottom
  pub not-below : c.top * (size_of x).bottom * fineness ≤ (size_of x).top * c.bottom * fineness + c.bottom * (size_of x).bottom

-- all three coordinates of v, a vertex on the edge from p with the sample a to q with the sample b
pub record NearCrossing (n : ℕ) (p q : GridPoint) (a b : Float) (v : Vertex) : Type 0 where
  pub near-x : Within v.x (exact_crossing n p.x q.x a b)
  pub near-y : Within v.y (exact_crossing n p.y q.y a b)
  pub near-z : Within v.z (exact_crossing n p.z q.z a b)

-- ---- of which edges it is said

-- two f32 that no cause 5 refuses, exactly one of them <= 0.0
pub record Crossed (a b : Float) : Type 0 where
  pub first_fits : T (fits binary32 a)
  pub second_fits : T (fits binary32 b)
  pub first_good : T (good a)
  pub second-good : T (good b)
  pub crossed : T (crosses a b)

-- a sample of a grid of that many layers of n times n
pub record InGrid (n layers : ℕ) (p : GridPoint) : Type 0 where
  pub in-x : p.x < n
  pub in-y : p.y < n
  pub in-z : p.z < layers

-- the same whole number, or one apart in either order
abbrev pub Beside : ℕ → ℕ → Type 0
Beside j k = (k ≡ j) ⊎ ((k ≡ j + 1) ⊎ (j ≡ k + 1))

pub record Neighbours (p q : GridPoint) : Type 0 where
  pub beside-x : Beside p.x q.x
  pub beside-y : Beside p.y q.y
  pub beside-z : Beside p.z q.z

-- f32 samples that no cause up to 5 refuses, for sizes to 512 and at most one layer more than a cube has
pub record GoodGrid (n layers : ℕ) (samples : List Float) : Type 0 where
  pub least : 2 ≤ n
  pub most : n ≤ 512
  pub layers-most : layers ≤ n + 1
  pub whole : length samples ≡ n * n * layers
  pub all_fit : (i : ℕ) → i < length samples → T (fits binary32 (get_or samples i nan))
  pub all-good : (i : ℕ) → i < length samples → T (good (get_or samples i nan))
