-- The theorem on one coordinate: finite, not -0.0 and within 2 ^ -20 of the exact crossing, for sizes 2 to 512 and ends in either order.
-- The roundings of the interpolation, of its ends and of the offset are 7, 5 and 3 parts of 2 ^ 24, and 16 are allowed.
use mathlib.Core.Path.{◌≡◌, sym, ap, subst}
use mathlib.Core.Logic.{inl, inr}
use Prim.Native.Nat.{ℕ, ◌+◌, ◌-◌, ◌*◌, ◌≤◌, ◌<◌}
use native.Mathlib.Nat.{add-sub_of_le, mul-le-mul_right, mul-pos}
use native.Mathlib.Omega.{arith}
use mathlib.Core.Bool.{Bool, true, false, true≢false}
use lib.Dec.{T, lit<}
use lib.Ieee.{Float, nan, inf, fin, binary32, sub, mul}
use lib.Ieee.Fits.{down_pos}
use lib.Ieee.Positive.{first_pos}
use lib.Ieee.Scale.{finite}
use Rattle.rounding.proofs.Nearness.{Apart, Near, apart-times, apart-cancel, near_times, near-cancel}
use Rattle.rounding.proofs.Units.{units_of_one, HasUnits, one-pos}
use Rattle.rounding.proofs.Signs.{finite-of-units}
use Rattle.marching_cubes_impl.specs.Sample.{one}
use Rattle.marching_cubes_impl.specs.Edge.{offset_of}
use Rattle.positions.specs.Position.{step_of, corner_of, coordinate_of}
use Rattle.positions.specs.Crossing.{Fraction, size_of, exact_crossing, finite_plus, fineness, Within, Crossed, Beside}
use Rattle.positions.proofs.Offset.{CrossingOffset, crossing-offset, delta-finite, offset-finite}
use Rattle.positions.proofs.Corners.{CornerUnits, corner-units, corner-upto, step-finite, corner-finite}
use Rattle.positions.proofs.Interpolation.{BetweenUnits, between-units}

-- ---- on numbers alone, with l for 1.0, N for n - 1, A and B for the samples' units, t for the offset and w = l - t

-- what the errors of the ends U and Y, which stand for j and k, do to the exact mixture
ends-near : (l N U Y t w j k : ℕ) → t + w ≡ l → Near (U * N) (j * l) (5 * N * l) → Near (Y * N) (k * l) (5 * N * l)
    → Near ((U * w + Y * t) * N) ((j * w + k * t) * l) (5 * N * l * l)
ends-near l N U Y t w j k e first second =
    let a = near_times (U * N) (j * l) (5 * N * l) w first in
    let b = near_times (Y * N) (k * l) (5 * N * l) t second in
    let c : N * l * (t + w) ≡ N * l * l = ap (λ (z : ℕ). N * l * z) e in
    omega arith

-- what the error of the offset does, between ends that are the same or one apart in either order
module _ (l A B t w : ℕ) (e : t + w ≡ l) (near : Near (t * (A + B)) (A * l) (3 * ((A + B) * l))) where
  abbrev Mixed : ℕ → ℕ → Type 0
  Mixed j k = Near ((j * w + k * t) * (A + B)) ((j * B + k * A) * l) (3 * ((A + B) * l))

  shares : (k : ℕ) → k * (A + B) * (t + w) ≡ k * (A + B) * l
  shares k = ap (λ (z : ℕ). k * (A + B) * z) e

  still : (j : ℕ) → Mixed j j
  still j = let c = shares j in omega arith

  upward : (j : ℕ) → Mixed j (j + 1)
  upward j = let c = shares j in omega arith

  downward : (k : ℕ) → Mixed (k + 1) k
  downward k =
      let c = shares k in
      let d = shares 1 in
      omega arith

  offset_near : (j k : ℕ) → Beside j k → Mixed j k
  offset_near j k (inl h) = subst (λ (z : ℕ). Mixed j z) (let same : j ≡ k = omega arith in same) (still j)
  offset_near j k (inr (inl h)) = subst (λ (z : ℕ). Mixed j z) (let next : j + 1 ≡ k = omega arith in next) (upward j)
  offset_near j k (inr (inr h)) = subst (λ (z : ℕ). Mixed z k) (let next : k + 1 ≡ j = omega arith in next) (downward k)

-- all three together: S is A + B, c the mixture of the rounded ends, m that of the exact ends, z the exact crossing times S
whole-error : (l N S r c m z : ℕ) → 0 < l → 0 < N
    → Near (r * l) c (7 * (l * l))
    → Near (c * N) (m * l) (5 * N * l * l)
    → Near (m * S) (z * l) (3 * (S * l))
    → Apart (r * (N * S) * fineness) (z * l * fineness) (N * S * l)
whole-error l N S r c m z some more first second third =
    let a = near_times (r * l) c (7 * (l * l)) (N * S) first in
    let b = near_times (c * N) (m * l) (5 * N * l * l) S second in
    let d = near_times (m * S) (z * l) (3 * (S * l)) l third in
    let w : 1 * (S * l * l) ≤ N * (S * l * l) = mul-le-mul_right (S * l * l) more in
    sixteenth (r * (N * S)) (z * l) (N * S * l) (near-cancel (r * (N * S)) (z * l) (16 * (N * S * l)) l some (omega arith))
  where
    sixteenth : (x y e : ℕ) → Near x y (16 * e) → Apart (x * fineness) (y * fineness) e
    sixteenth x y e near = omega arith

-- ---- from units to the fractions of the definition

size-units : (x : Float) (s : Bool) (u : ℕ) → HasUnits x s u → (size_of x).top * units_of_one ≡ u * (size_of x).bottom
size-units nan s u h = absurd h
size-units (inf t) s u h = absurd h
size-units (fin t m e) s u h = h.1

bottom-pos : (x : Float) → 0 < (size_of x).bottom
bottom-pos nan = lit< tt
bottom-pos (inf s) = lit< tt
bottom-pos (fin s m e) = down_pos e

finite_plus-units : (x : Float) (u : ℕ) → HasUnits x false u → T (finite_plus x)
finite_plus-units nan u h = absurd h
finite_plus-units (inf t) u h = absurd h
finite_plus-units (fin true m e) u h = absurd (true≢false h.0)
finite_plus-units (fin false m e) u h = tt

-- in units the exact crossing is (j * B + k * A) / ((n - 1) * (A + B)), both times the common denominator of the samples' sizes
module _ (n j k : ℕ) (a b : Float) (s t : Bool) (A B : ℕ) (ha : HasUnits a s A) (hb : HasUnits b t B) where
  first-shared : (size_of a).top * (size_of b).bottom * units_of_one ≡ A * ((size_of a).bottom * (size_of b).bottom)
  first-shared =
      let d = (size_of b).bottom in
      let p : (size_of a).top * units_of_one * d ≡ A * (size_of a).bottom * d = ap (λ (z : ℕ). z * d) (size-units a s A ha) in
      omega arith

  second-shared : (size_of b).top * (size_of a).bottom * units_of_one ≡ B * ((size_of a).bottom * (size_of b).bottom)
  second-shared =
      let d = (size_of a).bottom in
      let p : (size_of b).top * units_of_one * d ≡ B * (size_of b).bottom * d = ap (λ (z : ℕ). z * d) (size-units b t B hb) in
      omega arith

  crossing-top : (exact_crossing n j k a b).top * units_of_one ≡ (j * B + k * A) * ((size_of a).bottom * (size_of b).bottom)
  unfolding exact_crossing
  crossing-top =
      let p = ap (λ (z : ℕ). j * z) second-shared in
      let q = ap (λ (z : ℕ). k * z) first-shared in
      omega arith

  crossing-bottom : (exact_crossing n j k a b).bottom * units_of_one ≡ (n - 1) * (A + B) * ((size_of a).bottom * (size_of b).bottom)
  unfolding exact_crossing
  crossing-bottom =
      let p = ap (λ (z : ℕ). (n - 1) * z) second-shared in
      let q = ap (λ (z : ℕ). (n - 1) * z) first-shared in
      omega arith

-- the bound in units, r against z / s, is the bound on the fractions x / dx against p / q; both halves, times 1.0 squared
module _ (x dx p q r z s d : ℕ) (hx : x * units_of_one ≡ r * dx) (hp : p * units_of_one ≡ z * d) (hq : q * units_of_one ≡ s * d) where
  value-shared : x * q * (units_of_one * units_of_one) ≡ r * s * (dx * d)
  value-shared =
      let a : x * units_of_one * (q * units_of_one) ≡ r * dx * (q * units_of_one) = ap (λ (w : ℕ). w * (q * units_of_one)) hx in
      let b : r * dx * (q * units_of_one) ≡ r * dx * (s * d) = ap (λ (w : ℕ). r * dx * w) hq in
      omega arith

  crossing-shared : p * dx * (units_of_one * units_of_one) ≡ z * units_of_one * (dx * d)
  crossing-shared = let a = ap (λ (w : ℕ). w * (dx * units_of_one)) hp in omega arith

  error-shared : q * dx * (units_of_one * units_of_one) ≡ s * units_of_one * (dx * d)
  error-shared = let a = ap (λ (w : ℕ). w * (dx * units_of_one)) hq in omega arith

  fractions-apart : Apart (r * s * fineness) (z * units_of_one * fineness) (s * units_of_one) → Apart (x * q * fineness) (p * dx * fineness) (q * dx)
  fractions-apart near =
      let l = units_of_one * units_of_one in
      let scaled = apart-times (r * s * fineness) (z * units_of_one * fineness) (s * units_of_one) (dx * d) near in
      apart-cancel (x * q * fineness) (p * dx * fineness) (q * dx) l (mul-pos one-pos one-pos)
      (joined (x * q) (p * dx) (q * dx) l (r * s) (z * units_of_one) (s * units_of_one) (dx * d) value-shared crossing-shared error-shared scaled)
    where
      joined : (x p q l r z s d : ℕ) → x * l ≡ r * d → p * l ≡ z * d → q * l ≡ s * d
          → Apart (r * fineness * d) (z * fineness * d) (s * d)
          → Apart (x * fineness * l) (p * fineness * l) (q * l)
      joined x p q l r z s d hx hp hq near = omega arith

within-of-units : (x : Float) (c : Fraction) (r z s d : ℕ) → 0 < s → 0 < d → HasUnits x false r
    → c.top * units_of_one ≡ z * d
    → c.bottom * units_of_one ≡ s * d
    → Apart (r * s * fineness) (z * units_of_one * fineness) (s * units_of_one)
    → Within x c
within-of-units x c r z s d some more h hp hq near =
    let apart = fractions-apart (size_of x).top (size_of x).bottom c.top c.bottom r z s d (size-units x false r h) hp hq near in
    record {
      fraction = first_pos c.bottom units_of_one (subst (λ (w : ℕ). 0 < w) (sym hq) (mul-pos some more));
      number = finite_plus-units x r h;
      not-above = (let above = apart.0 in omega arith);
      not-below = (let below = apart.1 in omega arith);
    }

-- ---- the theorem

-- no operation on the way to a coordinate overflows or gives a NaN
pub record OperationsFinite (n j k : ℕ) (a b : Float) : Type 0 where
  pub step : T (finite (step_of n))
  pub first-corner : T (finite (corner_of j (step_of n)))
  pub second-corner : T (finite (corner_of k (step_of n)))
  pub delta : T (finite (sub binary32 b a))
  pub offset : T (finite (offset_of a b))
  pub rest : T (finite (sub binary32 one (offset_of a b)))
  pub first-product : T (finite (mul binary32 (corner_of j (step_of n)) (sub binary32 one (offset_of a b))))
  pub second-product : T (finite (mul binary32 (corner_of k (step_of n)) (offset_of a b)))
  pub sum : T (finite (coordinate_of n j k a b))

module _ (n j k : ℕ) (a b : Float) (least : 2 ≤ n) (most : n ≤ 512) (first-last : j ≤ n) (second-last : k ≤ n) (e : Crossed a b) where
  offset : CrossingOffset a b
  offset = crossing-offset a b e

  abbrev A : ℕ
  A = offset.first.units

  abbrev B : ℕ
  B = offset.second.units

  abbrev rest : ℕ
  rest = units_of_one - offset.units

  shared-out : offset.units + rest ≡ units_of_one
  shared-out = add-sub_of_le offset.upto-one

  abbrev first-corner : CornerUnits n j
  first-corner = corner-units n least most j first-last

  abbrev second-corner : CornerUnits n k
  second-corner = corner-units n least most k second-last

  abbrev first : ℕ
  first = first-corner.units

  abbrev second : ℕ
  second = second-corner.units

  coordinate-units : BetweenUnits (corner_of j (step_of n)) (corner_of k (step_of n)) (offset_of a b) (first * rest + second * offset.units)
  coordinate-units =
      between-units (corner_of j (step_of n)) (corner_of k (step_of n)) (offset_of a b) first second offset.units rest
      first-corner.value second-corner.value offset.value shared-out
      (corner-upto n least most j first-last) (corner-upto n least most k second-last)

  pub operations-finite : OperationsFinite n j k a b
  operations-finite =
      record {
        step = step-finite n least most;
        first-corner = corner-finite n least most j first-last;
        second-corner = corner-finite n least most k second-last;
        delta = delta-finite a b e;
        offset = offset-finite a b e;
        rest = coordinate-units.rest-finite;
        first-product = coordinate-units.first-finite;
        second-product = coordinate-units.second-finite;
        sum = finite-of-units (coordinate_of n j k a b) false coordinate-units.units coordinate-units.value;
      }

  steps_pos : 0 < n - 1
  steps_pos = omega arith

  coordinate-apart : Beside j k
      → Apart (coordinate-units.units * ((n - 1) * (A + B)) * fineness) ((j * B + k * A) * units_of_one * fineness) ((n - 1) * (A + B) * units_of_one)
  coordinate-apart beside =
      let l = units_of_one in
      let t = offset.units in
      whole-error l (n - 1) (A + B) coordinate-units.units (first * rest + second * t) (j * rest + k * t) (j * B + k * A) one-pos steps_pos
      coordinate-units.near
      (ends-near l (n - 1) first second t rest j k shared-out first-corner.near second-corner.near)
      (offset_near l A B t rest shared-out offset.near j k beside)

  pub coordinate-within : Beside j k → Within (coordinate_of n j k a b) (exact_crossing n j k a b)
  coordinate-within beside =
      let va = offset.first in
      let vb = offset.second in
      within-of-units (coordinate_of n j k a b) (exact_crossing n j k a b) coordinate-units.units (j * B + k * A) ((n - 1) * (A + B))
      ((size_of a).bottom * (size_of b).bottom) (mul-pos steps_pos offset.some) (mul-pos (bottom-pos a) (bottom-pos b)) coordinate-units.value
      (crossing-top n j k a b va.sign vb.sign A B va.value vb.value)
      (crossing-bottom n j k a b va.sign vb.sign A B va.value vb.value)
      (coordinate-apart beside)
