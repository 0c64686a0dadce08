-- Whole numbers that are at most so far apart, and the same in parts of 2 ^ 24, in which the errors of binary32 are counted.
use Prim.Native.Nat.{ℕ, ◌+◌, ◌*◌, ◌≤◌, ◌<◌}
use native.Mathlib.Nat.{mul-le-mul_right, le_of_mul-le-mul_right}
use native.Mathlib.Omega.{arith}

abbrev pub Apart : ℕ → ℕ → ℕ → Type 0
Apart x y error = (x ≤ y + error) × (y ≤ x + error)

-- 2 ^ 24: half a last place of a normal f32 is at most one part in so many
abbrev pub ulps : ℕ
ulps = 16777216

-- x and y are at most error / 2 ^ 24 apart
abbrev pub Near : ℕ → ℕ → ℕ → Type 0
Near x y error = Apart (x * ulps) (y * ulps) error

pub apart-times : (x y error k : ℕ) → Apart x y error → Apart (x * k) (y * k) (error * k)
apart-times x y error k near =
    let above : x * k ≤ (y + error) * k = mul-le-mul_right k near.0 in
    let below : y * k ≤ (x + error) * k = mul-le-mul_right k near.1 in
    omega arith

pub apart-cancel : (x y error k : ℕ) → 0 < k → Apart (x * k) (y * k) (error * k) → Apart x y error
apart-cancel x y error k some near = (le_of_mul-le-mul_right {k = k} (omega arith) some, le_of_mul-le-mul_right {k = k} (omega arith) some)

pub near_times : (x y error k : ℕ) → Near x y error → Near (x * k) (y * k) (error * k)
near_times x y error k near = let scaled = apart-times (x * ulps) (y * ulps) error k near in omega arith

pub near-cancel : (x y error k : ℕ) → 0 < k → Near (x * k) (y * k) (error * k) → Near x y error
near-cancel x y error k some near = apart-cancel (x * ulps) (y * ulps) error k some (omega arith)
