-- A good sample in units: a whole number of them that `round` keeps, and small enough that the sum of two is safe.
use mathlib.Core.Path.{sym}
use Prim.Native.Nat.{ℕ, ◌+◌, ◌*◌, ◌^◌, ◌≤◌}
use native.Mathlib.Nat.{le_trans, le_of_eq, mul_right_comm, mul-le-mul_right, le_of_mul-le-mul_right}
use native.Mathlib.Omega.{arith}
use mathlib.Core.Bool.{Bool}
use lib.IntN.{ℤ}
use lib.Dec.{T, leb→le, lit≤}
use lib.Ieee.{Float, nan, inf, fin, binary32, up, down, fits}
use lib.Ieee.Fits.{down_pos}
use Rattle.rounding.proofs.Units.{units_of_one, safe_units, HasUnits}
use Rattle.rounding.proofs.Values.{ValueOf, value-of-fits}
use Rattle.marching_cubes_impl.specs.Sample.{good}

pub record Sample (x : Float) : Type 0 where
  pub known : ValueOf x
  pub half-safe : known.units + known.units ≤ safe_units

-- twice 2 ^ 126 is 2 ^ 127
twice-safe : (units : ℕ) → units ≤ 2 ^ 126 * units_of_one → units + units ≤ safe_units
unfolding units_of_one safe_units
twice-safe units h = le_trans (double units (2 ^ 126 * 2 ^ 149) h) (lit≤ tt)
  where
    double : (u v : ℕ) → u ≤ v → u + u ≤ v + v
    double u v h = omega arith

units-le : (s t : Bool) (m : ℕ) (e : ℤ) (u : ℕ) → HasUnits (fin s m e) t u → m * up e ≤ 2 ^ 126 * down e → u ≤ 2 ^ 126 * units_of_one
units-le s t m e u h k =
    le_of_mul-le-mul_right {k = down e}
    (le_trans (le_of_eq (sym h.1)) (le_trans (mul-le-mul_right units_of_one k) (le_of_eq (mul_right_comm (2 ^ 126) (down e) units_of_one))))
    (down_pos e)

pub sample-of-good : (x : Float) → T (fits binary32 x) → T (good x) → Sample x
unfolding good
sample-of-good nan f g = absurd g
sample-of-good (inf s) f g = absurd g
sample-of-good (fin s m e) f g =
    let v = value-of-fits (fin s m e) f tt in
    let limited : m * up e ≤ 2 ^ 126 * down e = leb→le (m * up e) (2 ^ 126 * down e) g in
    record { known = v; half-safe = twice-safe v.units (units-le s v.sign m e v.units v.value limited) }
