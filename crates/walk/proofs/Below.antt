-- A test over the numbers below a bound, computed, and what it says of each of them.
use mathlib.Core.Path.{◌≡◌, subst}
use mathlib.Core.Bool.{Bool, true, ◌&&◌}
use Prim.Native.Nat.{ℕ, zero, suc, ◌<◌}
use native.Mathlib.Nat.{not-suc-le-zero}
use native.Mathlib.Decide.{dec_lt}
use native.Mathlib.Omega.{arith}
use lib.Dec.{T}
use Rattle.marching_cubes_tables.proofs.Tests.{both_left, both_right}

abbrev pub all_below : ℕ → (ℕ → Bool) → Bool
all_below zero f = true
all_below (suc k) f = f k && all_below k f

pub all_below-at : (k : ℕ) (f : ℕ → Bool) → T (all_below k f) → (i : ℕ) → i < k → T (f i)
all_below-at zero f t i h = absurd (not-suc-le-zero h)
all_below-at (suc k) f t i h =
    elim (dec_lt i k) [
      | yes a ↦ all_below-at k f (both_right (f k) (all_below k f) t) i a
      | no a ↦ let e : k ≡ i = omega arith in subst (λ (j : ℕ). T (f j)) e (both_left (f k) (all_below k f) t)
    ]
