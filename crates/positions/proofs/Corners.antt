-- The step and a corner coordinate in units: each is finite, and a corner coordinate is within 5 / 2 ^ 24 of k / (n - 1), for k up to n.
use mathlib.Core.Path.{◌≡◌}
use Prim.Native.Nat.{ℕ, ◌+◌, ◌-◌, ◌*◌, ◌^◌, ◌≤◌, ◌<◌}
use native.Mathlib.Nat.{le_refl, le_trans, mul-le-mul_left, mul-le-mul_right, le_of_mul-le-mul_right, mul-pos}
use native.Mathlib.Omega.{arith}
use mathlib.Core.Bool.{false}
use lib.IntN.{pos}
use lib.Dec.{T}
use lib.Ieee.{binary32, of_int}
use lib.Ieee.Scale.{finite}
use Rattle.rounding.proofs.Nearness.{Near, ulps, near_times, near-cancel}
use Rattle.rounding.proofs.Units.{units_of_one, safe_units, normal_units, HasUnits, rounded, rounded_product, one-pos, one-large, safe-large, one-safe, rounded-near, rounded-near-whole}
use Rattle.rounding.proofs.Signs.{finite-of-units}
use Rattle.rounding.proofs.Operations.{mul-units, div-units}
use Rattle.rounding.proofs.Values.{whole-units, one-units}
use Rattle.marching_cubes_impl.specs.Sample.{one}
use Rattle.positions.specs.Position.{step_of, corner_of}

-- ---- on numbers alone, with l for 1.0, N for n - 1, h for the step and c for the corner coordinate

step-safe : (l m N : ℕ) → 0 < N → l ≤ m → l * l ≤ m * (N * l)
step-safe l m N some safe =
    let a : l * l ≤ m * l = mul-le-mul_right l safe in
    let b : m * l * 1 ≤ m * l * N = mul-le-mul_left (m * l) some in
    omega arith

step-normal : (l N : ℕ) → N < 512 → 2 ^ 100 ≤ l → normal_units * (N * l) ≤ l * l
step-normal l N small large =
    let a : normal_units * N * l ≤ l * l = mul-le-mul_right l (le_trans (coarse N small) large) in
    omega arith
  where
    coarse : (N : ℕ) → N < 512 → normal_units * N ≤ 2 ^ 100
    coarse N small = omega arith

step-le : (l N h : ℕ) → 0 < N → Near (h * N) l l → h ≤ 2 * l
step-le l N h some near = let a : h * 1 ≤ h * N = mul-le-mul_left h some in omega arith

product-safe : (l m k h : ℕ) → h ≤ 2 * l → k ≤ 512 → 2 ^ 100 * l ≤ m → k * l * h * l ≤ m * (l * l)
product-safe l m k h step small room =
    let a : k * h ≤ 512 * h = mul-le-mul_right h small in
    let b : k * h ≤ m = omega arith in
    let c : k * h * (l * l) ≤ m * (l * l) = mul-le-mul_right (l * l) b in
    omega arith

-- the errors of the step and of the product together
errors-add : (l N k h c : ℕ) → 0 < N → k ≤ N + 1 → Near (h * N) l l → Near c (k * h) (k * h) → Near (c * N) (k * l) (5 * N * l)
errors-add l N k h c some last step product =
    let a = near_times (h * N) l l k step in
    let b = near_times c (k * h) (k * h) N product in
    let d : k * l ≤ (N + 1) * l = mul-le-mul_right l last in
    let e : 1 * l ≤ N * l = mul-le-mul_right l some in
    let r : Near (c * N) (k * l) (5 * (N * l)) = whole (c * N) (k * l) (k * h * N) (N * l) (omega arith) (omega arith) (omega arith) in
    omega arith
  where
    whole : (x y z w : ℕ) → Near z y y → Near x z z → y ≤ 2 * w → Near x y (5 * w)
    whole x y z w f g h = omega arith

-- a corner coordinate is at most 2.0 and its error: k is at most n, and n / (n - 1) at most 2
corner-le : (l N k c : ℕ) → 0 < N → k ≤ N + 1 → Near (c * N) (k * l) (5 * N * l) → c * ulps ≤ l * (2 * ulps + 5)
corner-le l N k c some last near =
    let d : k * l ≤ (N + 1) * l = mul-le-mul_right l last in
    let e : 1 * l ≤ N * l = mul-le-mul_right l some in
    le_of_mul-le-mul_right {k = N} (omega arith) some

-- ---- the two of them as floats

pub record StepUnits (n : ℕ) : Type 0 where
  pub units : ℕ
  pub value : HasUnits (step_of n) false units
  pub near : Near (units * (n - 1)) units_of_one units_of_one

pub record CornerUnits (n k : ℕ) : Type 0 where
  pub units : ℕ
  pub value : HasUnits (corner_of k (step_of n)) false units
  pub near : Near (units * (n - 1)) (k * units_of_one) (5 * (n - 1) * units_of_one)

module _ (n : ℕ) (least : 2 ≤ n) (most : n ≤ 512) where
  abbrev N : ℕ
  N = n - 1

  N-pos : 0 < N
  N-pos = omega arith

  N-lt : N < 512
  N-lt = omega arith

  pub step-units : StepUnits n
  unfolding step_of
  step-units =
      let l = units_of_one in
      let some = mul-pos N-pos one-pos in
      let whole = whole-units N (below N N-lt) in
      record {
        units = rounded l (N * l);
        value = div-units one (of_int binary32 (pos N)) false false l (N * l) one-units whole some (step-safe l safe_units N N-pos one-safe);
        near = cut (rounded l (N * l)) N l one-pos (rounded-near l (N * l) (l * l) some (le_refl (l * l)) (step-normal l N N-lt one-large));
      }
    where
      below : (m : ℕ) → m < 512 → m < ulps
      below m h = omega arith

      cut : (h m l : ℕ) → 0 < l → Near (h * (m * l)) (l * l) (l * l) → Near (h * m) l l
      cut h m l some near = near-cancel (h * m) l l l some (omega arith)

  pub step-finite : T (finite (step_of n))
  step-finite = finite-of-units (step_of n) false step-units.units step-units.value

  module _ (k : ℕ) (last : k ≤ n) where
    k-last : k ≤ N + 1
    k-last = omega arith

    pub corner-units : CornerUnits n k
    unfolding corner_of
    corner-units =
        let h = step-units.units in
        let l = units_of_one in
        let c = rounded_product (k * l * h) in
        let whole = whole-units k (omega arith) in
        let safe = product-safe l safe_units k h (step-le l N h N-pos step-units.near) (le_trans last most) safe-large in
        let product : Near c (k * h) (k * h) = rounded-near-whole (k * l * h) (l * l) (k * h) (mul-pos one-pos one-pos) (regroup k l h) in
        record {
          units = c;
          value = mul-units (of_int binary32 (pos k)) (step_of n) false false (k * l) h whole step-units.value safe;
          near = errors-add l N k h c N-pos k-last step-units.near product;
        }
      where
        regroup : (k l h : ℕ) → k * l * h * l ≡ k * h * (l * l)
        regroup k l h = omega arith

    pub corner-upto : corner-units.units * ulps ≤ units_of_one * (2 * ulps + 5)
    corner-upto = corner-le units_of_one N k corner-units.units N-pos k-last corner-units.near

    pub corner-finite : T (finite (corner_of k (step_of n)))
    corner-finite = finite-of-units (corner_of k (step_of n)) false corner-units.units corner-units.value
