-- The rows of a grid in the lent list of samples.
use Prim.Native.Nat.{ℕ, ◌+◌, ◌*◌, ◌<◌}
use native.Mathlib.Nat.{mul-le-mul_right, suc-mul}
use native.Mathlib.Omega.{arith}

-- a place (row * n + x) in rows of n
pub in-row-lt : (n rows row x : ℕ) → x < n → row < rows → row * n + x < rows * n
in-row-lt n rows row x hx hr =
    let a = mul-le-mul_right n hr in
    omega (arith, suc-mul row n)
