-- Values of binary32 in units: every finite f32 is a whole number of units that `round` keeps, and a whole number below 2 ^ 24 is exact as
-- an f32.
use mathlib.Core.Path.{◌≡◌, refl, sym, ap, ◌∙◌, subst}
use Prim.Native.Nat.{ℕ, zero, suc, ◌+◌, ◌-◌, ◌*◌, ◌%◌, ◌^◌, ◌≤◌, ◌<◌}
use native.Mathlib.Nat.{le_trans, le_of_eq, not-le_of_lt, mul_assoc, mul_comm, mul-one, zero-mul, mul-le-mul_right}
use native.Mathlib.Omega.{arith}
use mathlib.Core.Bool.{Bool, true, false, not, ◌&&◌}
use lib.IntN.{ℤ, pos, negsuc}
use lib.Dec.{T, leb, ltb, eqb, leb→le, nleb→lt, ltb→lt, eqb→eq, lit≤, lit<}
use lib.Pow.{pow-add, pow-lt}
use lib.Ieee.{Float, nan, inf, fin, binary32, up, down, round, of_int, fits}
use lib.Ieee.Digits.{back}
use lib.Ieee.Fits.{up_pos, and_l, and_r}
use lib.Ieee.Scale.{finite}
use Rattle.rounding.proofs.Nearness.{ulps}
use Rattle.rounding.proofs.Units.{units_of_one, safe_units, HasUnits, Representable, safe-large, round-units, rounded-exact}

-- ---- a finite f32

pub record ValueOf (x : Float) : Type 0 where
  pub sign : Bool
  pub units : ℕ
  pub value : HasUnits x sign units
  pub representable : Representable units

units_of : ℕ → ℤ → ℕ
units_of m (pos k) = m * 2 ^ (k + 149)
units_of m (negsuc k) = m * 2 ^ (149 - suc k)

low-exponent : (k : ℕ) → 2 ^ suc k ≤ 2 ^ 149 → suc k ≤ 149
low-exponent k h = tested (leb (suc k) 149) (leb→le (suc k) 149) (nleb→lt (suc k) 149)
  where
    tested : (b : Bool) → (T b → suc k ≤ 149) → (T (not b) → 149 < suc k) → suc k ≤ 149
    tested true f g = f tt
    tested false f g = absurd (not-le_of_lt (pow-lt (g tt)) h)

units_of-size : (m : ℕ) (e : ℤ) → down e ≤ 2 ^ 149 → m * up e * units_of_one ≡ units_of m e * down e
unfolding units_of units_of_one
units_of-size m (pos k) h = mul_assoc m (2 ^ k) (2 ^ 149) ∙ ap (λ (z : ℕ). m * z) (sym (pow-add 2 k 149)) ∙ sym (mul-one (m * 2 ^ (k + 149)))
units_of-size m (negsuc k) h =
    ap (λ (z : ℕ). z * 2 ^ 149) (mul-one m)
    ∙ ap (λ (z : ℕ). m * z) (ap (λ (z : ℕ). 2 ^ z) (sym (back 149 (suc k) (low-exponent k h))) ∙ pow-add 2 (149 - suc k) (suc k))
    ∙ sym (mul_assoc m (2 ^ (149 - suc k)) (2 ^ suc k))

units_of-representable : (m : ℕ) (e : ℤ) → m < ulps → Representable (units_of m e)
unfolding units_of
units_of-representable m (pos k) h = record { digits = m; zeros = k + 149; digits_lt = h; written = refl }
units_of-representable m (negsuc k) h = record { digits = m; zeros = 149 - suc k; digits_lt = h; written = refl }

-- what `fits` says: at most 24 digits, and no place below 2 ^ -149
small-of-fits : (s : Bool) (m : ℕ) (e : ℤ) → T (fits binary32 (fin s m e)) → (m < ulps) × (down e ≤ 2 ^ 149)
unfolding fits
small-of-fits s zero e t = (lit< tt, zero-down (up e) (down e) (up_pos e) (eqb→eq (up e * down e) 1 t))
  where
    le-one : (d x : ℕ) → 1 * d ≤ x → x ≡ 1 → d ≤ 1
    le-one d x a h = omega arith

    zero-down : (u d : ℕ) → 0 < u → u * d ≡ 1 → d ≤ 2 ^ 149
    zero-down u d p h = le_trans (le-one d (u * d) (mul-le-mul_right d p) h) (lit≤ tt)
small-of-fits s (suc m) e t =
    let a = eqb (suc m % 2) 1 in
    let b = ltb (suc m) ulps in
    let c = leb (down e) (2 ^ 149) in
    let d = ltb (suc m * up e) (2 ^ 128 * down e) in (
      ltb→lt (suc m) ulps (and_r a b (and_l (a && b) c (and_l (a && b && c) d t))),
      leb→le (down e) (2 ^ 149) (and_r (a && b) c (and_l (a && b && c) d t)),
    )

pub value-of-fits : (x : Float) → T (fits binary32 x) → T (finite x) → ValueOf x
value-of-fits nan f t = absurd t
value-of-fits (inf s) f t = absurd t
value-of-fits (fin s m e) f t =
    let small = small-of-fits s m e f in
    record {
      sign = s;
      units = units_of m e;
      value = (refl, units_of-size m e small.1);
      representable = units_of-representable m e small.0;
    }

-- ---- a whole number

module _ (n : ℕ) (small : n < ulps) where
  whole-representable : Representable (n * units_of_one)
  unfolding units_of_one
  whole-representable = record { digits = n; zeros = 149; digits_lt = small; written = refl }

  whole-safe : n * units_of_one ≤ safe_units
  whole-safe = le_trans (mul-le-mul_right units_of_one (omega arith)) safe-large

  pub whole-units : HasUnits (of_int binary32 (pos n)) false (n * units_of_one)
  unfolding of_int
  whole-units =
      let exact = rounded-exact n 1 (n * units_of_one) (lit< tt) whole-representable whole-safe (sym (mul-one (n * units_of_one))) in
      subst (λ (z : ℕ). HasUnits (round binary32 false n 1) false z) exact
      (round-units false n 1 (lit< tt) (le_trans whole-safe (le_of_eq (sym (mul-one safe_units)))))

pub one-units : HasUnits (fin false 1 (pos 0)) false units_of_one
one-units = (refl, ap (λ (z : ℕ). z * units_of_one) (mul-one 1) ∙ mul_comm 1 units_of_one)

pub zero-units : HasUnits (fin false 0 (pos 0)) false 0
zero-units = (refl, zero-mul units_of_one)
