-- How large a listed mesh can be: of sizes 2 to 7, so that the program's buffers always suffice.
use mathlib.Core.Bool.{Bool, true, false, cond}
use mathlib.Core.List.{List, []}
use Prim.Native.Nat.{ℕ, ◌+◌, ◌-◌, ◌*◌, ◌/◌, ◌≤◌}
use native.Mathlib.Nat.{mul-le-mul}
use native.Mathlib.Omega.{arith}
use lib.Dec.{eqb}
use lib.ListN.{length}
use lib.Ieee.{Float}
use Rattle.walk.specs.Cache.{fresh}
use Rattle.walk.specs.Numbering.{mesh, joined, crate}
use Rattle.walk.proofs.Counts.{indices-most, made-le-indices}
use Rattle.lent_mesh.specs.Grid.{inside_of}
use Rattle.outcome.specs.Outcome.{Surface, surface, surface_of}

either : (P : Surface → Type 0) (b : Bool) (c j : Surface) → P c → P j → P (cond b c j)
either P true c j hc hj = hc
either P false c j hc hj = hj

module _ (n numbering : ℕ) (samples : List Float) where
  pub made-le : length (surface_of n numbering samples).made ≤ length (surface_of n numbering samples).indices
  unfolding surface_of
  made-le =
      either (λ s. length s.made ≤ length s.indices) (eqb numbering 0)
      (surface (mesh (crate n) fresh (inside_of n samples) n n)) (surface (mesh joined [] (inside_of n samples) n n))
      (made-le-indices (crate n) fresh (inside_of n samples) n n) (made-le-indices joined [] (inside_of n samples) n n)

  indices-cells : length (surface_of n numbering samples).indices ≤ 15 * (n * (n - 1) * (n - 1))
  unfolding surface_of
  indices-cells =
      either (λ s. length s.indices ≤ 15 * (n * (n - 1) * (n - 1))) (eqb numbering 0)
      (surface (mesh (crate n) fresh (inside_of n samples) n n)) (surface (mesh joined [] (inside_of n samples) n n))
      (indices-most (crate n) fresh (inside_of n samples) n n) (indices-most joined [] (inside_of n samples) n n)

  pub indices-le : n ≤ 7 → length (surface_of n numbering samples).indices ≤ 3780
  indices-le most =
      let less : n - 1 ≤ 6 = omega arith in
      let cells : n * (n - 1) * (n - 1) ≤ 7 * 6 * 6 = mul-le-mul (mul-le-mul most less) less in
      let all = indices-cells in
      omega arith

-- the text of a mesh with these counts
pub text-le : (made written : ℕ) → made ≤ written → written ≤ 3780 → 102 + 29 * made + 65 * (written / 3) ≤ 191622
text-le made written m w = omega arith
