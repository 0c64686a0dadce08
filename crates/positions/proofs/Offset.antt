-- The offset of a crossing, for samples of A and B units: delta is finite and not zero, the offset is finite and from 0 to 1, and it is
-- within 3 / 2 ^ 24 of A / (A + B).
use mathlib.Core.Path.{◌≡◌, refl, sym, ap, subst}
use mathlib.Core.Logic.{◌⊎◌, inl, inr}
use Prim.Native.Nat.{ℕ, ◌+◌, ◌*◌, ◌≤◌, ◌<◌, zero-le}
use native.Mathlib.Nat.{le_trans, le_of_eq, mul_comm, mul-le-mul, mul-le-mul_left, mul-le-mul_right}
use native.Mathlib.Omega.{arith}
use mathlib.Core.Bool.{Bool, true, false, not, cond}
use lib.Dec.{T, lit≤}
use lib.Ieee.{Float, binary32, unlike, sub, div, neg, eq, le}
use lib.Ieee.Scale.{finite}
use Rattle.rounding.proofs.Nearness.{Near, ulps, near_times}
use Rattle.rounding.proofs.Units.{units_of_one, safe_units, normal_units, HasUnits, Representable, rounded, rounded_sum, Safe, one-pos, one-large, one-safe, one-representable, sum_near, quotient-near, rounded-mono, rounded-exact}
use Rattle.rounding.proofs.Signs.{OnSide, side-of-units, units-of-side, finite-of-units, neg-units, neg-side, le-of-side, not-equal-zero, above_zero, upto_zero}
use Rattle.rounding.proofs.Operations.{sub-side, div-side}
use Rattle.rounding.proofs.Values.{ValueOf, zero-units, one-units}
use Rattle.marching_cubes_impl.specs.Sample.{nought, half, one, inside}
use Rattle.marching_cubes_impl.specs.Edge.{offset_of, crosses}
use Rattle.positions.specs.Crossing.{Crossed}
use Rattle.positions.proofs.Samples.{Sample, sample-of-good}

-- ---- the ends are on two sides of zero

-- -a and b are on one side of zero, and not both are zero
record Opposite (a b : Float) (A B : ℕ) : Type 0 where
  minus : Bool
  first : OnSide minus (neg a) A
  second : OnSide minus b B
  some : 0 < A + B

opposite : (a b : Float) (s t : Bool) (A B : ℕ) → HasUnits a s A → HasUnits b t B → T (crosses a b) → Opposite a b A B
unfolding crosses inside
opposite a b s t A B ha hb c =
    elim (one_inside (le a nought) (le b nought) c) [
      | inl h ↦
          let v = above_zero b t B hb h.1 in
          record {
            minus = false;
            first = neg-side true a A (upto_zero a s A ha h.0);
            second = side-of-units false b B v.0;
            some = later A B v.1;
          }
      | inr h ↦
          let v = above_zero a s A ha h.1 in
          record {
            minus = true;
            first = side-of-units true (neg a) A (neg-units a false A v.0);
            second = upto_zero b t B hb h.0;
            some = sooner A B v.1;
          }
    ]
  where
    one_inside : (p q : Bool) → T (unlike p q) → (T p × T (not q)) ⊎ (T q × T (not p))
    one_inside true true t = absurd t
    one_inside true false t = inl (tt, tt)
    one_inside false true t = inr (tt, tt)
    one_inside false false t = absurd t

    later : (A B : ℕ) → 0 < B → 0 < A + B
    later A B h = omega arith

    sooner : (A B : ℕ) → 0 < A → 0 < A + B
    sooner A B h = omega arith

-- ---- on numbers alone: t is A over the rounded sum D

-- the rounded sum is no less than either part
part-le-sum : (A B : ℕ) → Representable A → B + A ≤ safe_units → A ≤ rounded_sum (B + A)
part-le-sum A B r safe =
    let l = units_of_one in
    let small : A ≤ safe_units = omega arith in
    le_trans (le_of_eq (sym (rounded-exact A l A one-pos r small refl)))
    (rounded-mono A l (B + A) l one-pos one-pos (mul-le-mul_right l small) (mul-le-mul_right l safe) (mul-le-mul_right l (within A B)))
  where
    within : (A B : ℕ) → A ≤ B + A
    within A B = omega arith

part-safe : (A D : ℕ) → A ≤ D → Safe A D
part-safe A D h = le_trans (mul-le-mul h one-safe) (le_of_eq (mul_comm D safe_units))

-- so the quotient is at most 1
quotient-le-one : (A D : ℕ) → 0 < D → A ≤ D → rounded A D ≤ units_of_one
quotient-le-one A D some h =
    let l = units_of_one in
    let smaller : A * l ≤ l * D = le_trans (le_of_eq (mul_comm A l)) (mul-le-mul_left l h) in
    le_trans (rounded-mono A D l l some one-pos (part-safe A D h) (mul-le-mul_right l one-safe) smaller)
    (le_of_eq (rounded-exact l l l one-pos one-representable one-safe refl))

sum-pos : (A B D : ℕ) → 0 < A + B → Near D (B + A) (B + A) → 0 < D
sum-pos A B D some near = omega arith

-- the errors of the sum and of the quotient together, with l for 1.0
errors-add : (l A B D t : ℕ) → ulps ≤ l → t ≤ l → Near D (B + A) (B + A) → Near (t * D) (A * l) (A * l + normal_units * D)
    → Near (t * (A + B)) (A * l) (3 * ((A + B) * l))
errors-add l A B D t large upto sum quotient =
    let S = A + B in
    let turn = le_of_eq (mul_comm l S) in
    let near = swapped A B D sum in
    whole (t * D) (t * S) (A * l) (S * l) (normal_units * D) (scaled D S t near) quotient
    (le_trans (mul-le-mul_right S upto) turn)
    (mul-le-mul_right l (left A B))
    (normal-small D S (S * l) near.0 (le_trans (mul-le-mul_right S large) turn))
  where
    left : (A B : ℕ) → A ≤ A + B
    left A B = omega arith

    swapped : (A B D : ℕ) → Near D (B + A) (B + A) → Near D (A + B) (A + B)
    swapped A B D near = omega arith

    scaled : (D s t : ℕ) → Near D s s → Near (t * D) (t * s) (t * s)
    scaled D s t near = let times = near_times D s s t near in omega arith

    normal-small : (D s sl : ℕ) → D * ulps ≤ s * ulps + s → ulps * s ≤ sl → normal_units * D ≤ sl
    normal-small D s sl h k = let d : D ≤ 2 * s = omega arith in omega arith

    whole : (td ts al sl d : ℕ) → Near td ts ts → Near td al (al + d) → ts ≤ sl → al ≤ sl → d ≤ sl → Near ts al (3 * sl)
    whole td ts al sl d a b c e f = omega arith

-- ---- delta and the offset of a crossing

offset-is : (a b : Float) → eq (sub binary32 b a) nought ≡ false → offset_of a b ≡ div binary32 (neg a) (sub binary32 b a)
unfolding offset_of
offset-is a b e = ap (λ (z : Bool). cond z half (div binary32 (neg a) (sub binary32 b a))) e

-- what the bound needs: the two samples in units, and the offset in units
pub record CrossingOffset (a b : Float) : Type 0 where
  pub first : ValueOf a
  pub second : ValueOf b
  pub some : 0 < first.units + second.units
  pub units : ℕ
  pub value : OnSide false (offset_of a b) units
  pub upto-one : units ≤ units_of_one
  pub near : Near (units * (first.units + second.units)) (first.units * units_of_one) (3 * ((first.units + second.units) * units_of_one))

module _ (a b : Float) (e : Crossed a b) where
  abbrev first : Sample a
  first = sample-of-good a e.first_fits e.first_good

  abbrev second : Sample b
  second = sample-of-good b e.second_fits e.second-good

  abbrev A : ℕ
  A = first.known.units

  abbrev B : ℕ
  B = second.known.units

  -- the rounded sum of the sizes: the size of delta
  abbrev D : ℕ
  D = rounded_sum (B + A)

  sides : Opposite a b A B
  sides = opposite a b first.known.sign second.known.sign A B first.known.value second.known.value e.crossed

  sum-safe : B + A ≤ safe_units
  sum-safe = halves A B first.half-safe second.half-safe
    where
      halves : (u v : ℕ) → u + u ≤ safe_units → v + v ≤ safe_units → v + u ≤ safe_units
      halves u v h k = omega arith

  D-pos : 0 < D
  D-pos = sum-pos A B D sides.some (sum_near (B + A))

  delta-units : HasUnits (sub binary32 b a) sides.minus D
  delta-units =
      let s = sides.minus in
      units-of-side s (sub binary32 b a) D (sub-side s b a B A sides.second sides.first sum-safe) D-pos

  pub delta-finite : T (finite (sub binary32 b a))
  delta-finite = finite-of-units (sub binary32 b a) sides.minus D delta-units

  pub delta-not-zero : eq (sub binary32 b a) nought ≡ false
  delta-not-zero = not-equal-zero (sub binary32 b a) sides.minus D delta-units D-pos

  A-le : A ≤ D
  A-le = part-le-sum A B first.known.representable sum-safe

  offset-side : OnSide false (offset_of a b) (rounded A D)
  offset-side =
      let s = sides.minus in
      let delta = sub binary32 b a in
      subst (λ (z : Float). OnSide false z (rounded A D)) (sym (offset-is a b delta-not-zero))
      (subst (λ (m : Bool). OnSide m (div binary32 (neg a) delta) (rounded A D)) (like-signs s)
      (div-side s s (neg a) delta A D sides.first (side-of-units s delta D delta-units) D-pos (part-safe A D A-le)))
    where
      like-signs : (s : Bool) → unlike s s ≡ false
      like-signs true = refl
      like-signs false = refl

  offset-upto-one : rounded A D ≤ units_of_one
  offset-upto-one = quotient-le-one A D D-pos A-le

  pub offset-finite : T (finite (offset_of a b))
  offset-finite = finite-of-units (offset_of a b) offset-side.sign (rounded A D) offset-side.value

  -- 0.0 <= t and t <= 1.0
  pub offset-nonneg : T (le nought (offset_of a b))
  offset-nonneg = le-of-side nought (offset_of a b) 0 (rounded A D) (side-of-units false nought 0 zero-units) offset-side zero-le

  pub offset-le-one : T (le (offset_of a b) one)
  offset-le-one =
      le-of-side (offset_of a b) one (rounded A D) units_of_one offset-side (side-of-units false one units_of_one one-units) offset-upto-one

  offset_near : Near (rounded A D * (A + B)) (A * units_of_one) (3 * ((A + B) * units_of_one))
  offset_near =
      errors-add units_of_one A B D (rounded A D) (le_trans (lit≤ tt) one-large) offset-upto-one (sum_near (B + A)) (quotient-near A D D-pos)

  pub crossing-offset : CrossingOffset a b
  crossing-offset =
      record {
        first = first.known;
        second = second.known;
        some = sides.some;
        units = rounded A D;
        value = offset-side;
        upto-one = offset-upto-one;
        near = offset_near;
      }
