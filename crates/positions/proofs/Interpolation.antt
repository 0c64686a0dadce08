-- u * (1 - t) + v * t in units, for ends up to 2.0 and an offset t from 0 to 1: no step of it overflows, the result is not -0.0, and its
-- four roundings move it by at most 7 / 2 ^ 24.
use mathlib.Core.Path.{◌≡◌, ap}
use Prim.Native.Nat.{ℕ, ◌+◌, ◌*◌, ◌^◌, ◌≤◌, ◌<◌}
use native.Mathlib.Nat.{le_trans, le_of_eq, mul_assoc, mul-le-mul, mul-le-mul_right, le_of_mul-le-mul_right}
use native.Mathlib.Omega.{arith}
use mathlib.Core.Bool.{false}
use lib.Dec.{T, lit≤}
use lib.Ieee.{Float, binary32, sub, mul}
use lib.Ieee.Scale.{finite}
use Rattle.rounding.proofs.Nearness.{Near, ulps, near_times}
use Rattle.rounding.proofs.Units.{units_of_one, safe_units, normal_units, HasUnits, rounded_sum, rounded_product, one-pos, one-large, one-safe, safe-large, sum_near, product-near}
use Rattle.rounding.proofs.Signs.{OnSide, side-of-units, finite-of-units}
use Rattle.rounding.proofs.Operations.{add-plus, sub-plus, mul-units, mul-side}
use Rattle.rounding.proofs.Values.{one-units}
use Rattle.marching_cubes_impl.specs.Sample.{one}
use Rattle.marching_cubes_impl.specs.Vertex.{between}

-- ---- on numbers alone, with l for 1.0: the ends U and Y, the offset t and w = l - t, then as rounded x for w, p and q for the products
-- and r for their sum

-- The four errors add up to at most 7 l l. Coarse bounds come first, since `omega` stops at numbers of 38 digits; uw, yt, ux, pl, ql, rl
-- and ll are the products of those names.
sizes-coarse : (uw yt ll : ℕ) → (uw + yt) * ulps ≤ ll * (2 * ulps + 5) → (uw + yt) * 100 ≤ ll * 201
sizes-coarse uw yt ll h = omega arith

rest-coarse : (uw ux : ℕ) → ux * ulps ≤ uw * ulps + uw → ux * 32 ≤ uw * 33
rest-coarse uw ux h = omega arith

products-coarse : (yt ux pl ql l : ℕ) → pl * ulps ≤ ux * ulps + (ux + normal_units * l) → ql * ulps ≤ yt * ulps + (yt + normal_units * l)
    → (pl + ql) * 32 ≤ (ux + yt) * 33 + 32 * l
products-coarse yt ux pl ql l h k = omega arith

unit-coarse : (ll l : ℕ) → ulps * ulps * l ≤ ll → ulps * l * 1000 ≤ ll
unit-coarse ll l h = omega arith

errors-le : (uw yt ux pl ql ll l : ℕ) → (uw + yt) * 100 ≤ ll * 201
    → ux * 32 ≤ uw * 33
    → (pl + ql) * 32 ≤ (ux + yt) * 33 + 32 * l
    → ulps * l * 1000 ≤ ll
    → pl + ql + (ux + normal_units * l) + (yt + normal_units * l) + uw ≤ 7 * ll
errors-le uw yt ux pl ql ll l a b c d = omega arith

errors-add : (uw yt ux pl ql rl ll l : ℕ) → pl + ql + (ux + normal_units * l) + (yt + normal_units * l) + uw ≤ 7 * ll
    → Near ux uw uw → Near pl ux (ux + normal_units * l) → Near ql yt (yt + normal_units * l) → Near rl (pl + ql) (pl + ql)
    → Near rl (uw + yt) (7 * ll)
errors-add uw yt ux pl ql rl ll l h rest first second sum = omega arith

-- the two products together are at most 2.0 and its error, since t and w share out 1.0
sizes : (l U Y t w : ℕ) → t + w ≡ l → U * ulps ≤ l * (2 * ulps + 5) → Y * ulps ≤ l * (2 * ulps + 5)
    → (U * w + Y * t) * ulps ≤ l * l * (2 * ulps + 5)
sizes l U Y t w e hu hy =
    let a : U * ulps * w ≤ l * (2 * ulps + 5) * w = mul-le-mul_right w hu in
    let b : Y * ulps * t ≤ l * (2 * ulps + 5) * t = mul-le-mul_right t hy in
    let c : l * (t + w) ≡ l * l = ap (λ (z : ℕ). l * z) e in
    omega arith

roundings-near : (l U Y t w x p q r : ℕ) → ulps * ulps ≤ l → t + w ≡ l → U * ulps ≤ l * (2 * ulps + 5) → Y * ulps ≤ l * (2 * ulps + 5)
    → Near x w w
    → Near (p * l) (U * x) (U * x + normal_units * l)
    → Near (q * l) (Y * t) (Y * t + normal_units * l)
    → Near r (p + q) (p + q)
    → Near (r * l) (U * w + Y * t) (7 * (l * l))
roundings-near l U Y t w x p q r large e hu hy rest first second sum =
    let ux : Near (U * x) (U * w) (U * w) = scaled x w U rest in
    let small =
    errors-le (U * w) (Y * t) (U * x) (p * l) (q * l) (l * l) l
    (sizes-coarse (U * w) (Y * t) (l * l) (sizes l U Y t w e hu hy))
    (rest-coarse (U * w) (U * x) ux.0)
    (products-coarse (Y * t) (U * x) (p * l) (q * l) l first.0 second.0)
    (unit-coarse (l * l) l (mul-le-mul_right l large)) in
    errors-add (U * w) (Y * t) (U * x) (p * l) (q * l) (r * l) (l * l) l small ux first second (shared r p q l sum)
  where
    scaled : (x w U : ℕ) → Near x w w → Near (U * x) (U * w) (U * w)
    scaled x w U near = let times = near_times x w w U near in omega arith

    shared : (r p q l : ℕ) → Near r (p + q) (p + q) → Near (r * l) (p * l + q * l) (p * l + q * l)
    shared r p q l near = let times = near_times r (p + q) (p + q) l near in omega arith

-- no product of two values up to 4.0 overflows, and neither does the sum of two such products
product-safe : (l m U X : ℕ) → U ≤ 4 * l → X ≤ 4 * l → 2 ^ 100 * l ≤ m → U * X * l ≤ m * (l * l)
product-safe l m U X hu hx room =
    let a : U * X ≤ 4 * l * (4 * l) = mul-le-mul hu hx in
    let b : 16 * l * l ≤ m * l = mul-le-mul_right l (sixteen l m room) in
    let c : U * X ≤ m * l = omega arith in
    le_trans (mul-le-mul_right l c) (le_of_eq (mul_assoc m l l))
  where
    sixteen : (l m : ℕ) → 2 ^ 100 * l ≤ m → 16 * l ≤ m
    sixteen l m h = omega arith

product_le : (l U X p : ℕ) → 0 < l → U ≤ 4 * l → X ≤ 4 * l → Near (p * l) (U * X) (U * X + normal_units * l) → p ≤ 40 * l
product_le l U X p some hu hx near =
    let a : U * X ≤ 4 * l * (4 * l) = mul-le-mul hu hx in
    let b : 1 * l ≤ l * l = mul-le-mul_right l some in
    let c : p * l ≤ 40 * (l * l) = small (p * l) (U * X) (l * l) l (omega arith) near.0 b in
    le_of_mul-le-mul_right {k = l} (omega arith) some
  where
    small : (x a w l : ℕ) → a ≤ 16 * w → x * ulps ≤ a * ulps + (a + normal_units * l) → 1 * l ≤ w → x ≤ 40 * w
    small x a w l h o s = omega arith

-- ---- as floats

pub record BetweenUnits (u v t : Float) (exact : ℕ) : Type 0 where
  pub units : ℕ
  pub value : HasUnits (between u v t) false units
  pub near : Near (units * units_of_one) exact (7 * (units_of_one * units_of_one))
  -- no operation on the way overflows
  pub rest-finite : T (finite (sub binary32 one t))
  pub first-finite : T (finite (mul binary32 u (sub binary32 one t)))
  pub second-finite : T (finite (mul binary32 v t))

-- the ends are U and Y units, t is S units and 1 - t is W
pub between-units : (u v t : Float) (U Y S W : ℕ) → HasUnits u false U → HasUnits v false Y → OnSide false t S → S + W ≡ units_of_one
    → U * ulps ≤ units_of_one * (2 * ulps + 5) → Y * ulps ≤ units_of_one * (2 * ulps + 5)
    → BetweenUnits u v t (U * W + Y * S)
unfolding between
between-units u v t U Y S W hu hv ht e bu by =
    let l = units_of_one in
    let X = rounded_sum W in
    let P = rounded_product (U * X) in
    let Q = rounded_product (Y * S) in
    let u4 : U ≤ 4 * l = four U l bu in
    let y4 : Y ≤ 4 * l = four Y l by in
    let x4 : X ≤ 4 * l = rest-four X W S l e (sum_near W).0 in
    let t4 : S ≤ 4 * l = part-four S W l e in
    let p40 : P ≤ 40 * l = product_le l U X P one-pos u4 x4 (product-near (U * X)) in
    let q40 : Q ≤ 40 * l = product_le l Y S Q one-pos y4 t4 (product-near (Y * S)) in
    let rest = sub binary32 one t in
    let vs = sub-plus one t l S W one-units ht e one-safe in
    let vp = mul-units u rest false false U X hu vs (product-safe l safe_units U X u4 x4 safe-large) in
    let vq = mul-side false false v t Y S (side-of-units false v Y hv) ht (product-safe l safe_units Y S y4 t4 safe-large) in
    record {
      units = rounded_sum (P + Q);
      value = add-plus (mul binary32 u rest) (mul binary32 v t) P Q vp vq (le_trans (eighty P Q l p40 q40) safe-large);
      near = roundings-near l U Y S W X P Q (rounded_sum (P + Q)) (le_trans (lit≤ tt) one-large) e bu by
          (sum_near W) (product-near (U * X)) (product-near (Y * S)) (sum_near (P + Q));
      rest-finite = finite-of-units rest false X vs;
      first-finite = finite-of-units (mul binary32 u rest) false P vp;
      second-finite = finite-of-units (mul binary32 v t) vq.sign Q vq.value;
    }
  where
    four : (u l : ℕ) → u * ulps ≤ l * (2 * ulps + 5) → u ≤ 4 * l
    four u l h = omega arith

    rest-four : (x w t l : ℕ) → t + w ≡ l → x * ulps ≤ w * ulps + w → x ≤ 4 * l
    rest-four x w t l e h = omega arith

    part-four : (t w l : ℕ) → t + w ≡ l → t ≤ 4 * l
    part-four t w l e = omega arith

    eighty : (p q l : ℕ) → p ≤ 40 * l → q ≤ 40 * l → p + q ≤ 2 ^ 100 * l
    eighty p q l h k = omega arith
