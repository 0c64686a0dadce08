-- The samples of a grid whose size is below 2 ^ 16 are at most 2 ^ 48, so that `sample_count` works in a u64.
use Prim.Native.Nat.{ℕ, ◌+◌, ◌*◌, ◌≤◌, ◌<◌}
use native.Mathlib.Nat.{mul-le-mul}
use native.Mathlib.Omega.{arith}
use Rattle.sample_record.specs.Record.{sample_count}

module _ (n : ℕ) (small : n < 65536) where
  pub square_le : n * n ≤ 65536 * 65536
  square_le = let h : n ≤ 65536 = omega arith in mul-le-mul h h

  pub sample_count-le : sample_count n ≤ 65536 * 65536 * 65536
  sample_count-le = let h : n + 1 ≤ 65536 = omega arith in mul-le-mul square_le h
