-- `opposite_outside`: the cells of either pair of diagonals.
use mathlib.Core.Bool.{◌&&◌}
use native.Mathlib.Omega.{arith}
use Rattle.cell_tally.proofs.SetBits.{and_set, xor-set}
use Rattle.corner_signs.specs.Signs.{differ, four}
use Rattle.cell_tally.specs.Tally.{corner, is_set}
use Rattle.cell_tally.proofs.Tallies.{comes-plus, comes-set}
use lib.Bits.{bit_and, bit_xor}
use Rattle.cell_tally.proofs.Corners.opposite_outside.Goals as goal

pub returns : goal.returns
returns c =
    let k = c.args.self in
    let s1 = c.set_in.ensures in
    let s2 = c.set_in-2.ensures in (
      (comes-plus
          (comes-set (bit_and (bit_and (bit_and (bit_and (bit_and (bit_and (corner k 2) (corner k 3)) (corner k 4)) (corner k 5)) (bit_xor (corner k 0) (corner k 1))) (bit_xor (corner k 6) (corner k 7))) (bit_xor (corner k 0) (corner k 7)))
          (λ i. ((four (is_set (corner k 2) i) (is_set (corner k 3) i) (is_set (corner k 4) i) (is_set (corner k 5) i) && differ (is_set (corner k 0) i) (is_set (corner k 1) i)) && differ (is_set (corner k 6) i) (is_set (corner k 7) i)) && differ (is_set (corner k 0) i) (is_set (corner k 7) i))
          s1.0
          (λ i. simp (and_set, xor-set)))
          (comes-set (bit_and (bit_and (bit_and (bit_and (bit_and (bit_and (corner k 0) (corner k 1)) (corner k 6)) (corner k 7)) (bit_xor (corner k 2) (corner k 3))) (bit_xor (corner k 4) (corner k 5))) (bit_xor (corner k 3) (corner k 4)))
          (λ i. ((four (is_set (corner k 0) i) (is_set (corner k 1) i) (is_set (corner k 6) i) (is_set (corner k 7) i) && differ (is_set (corner k 2) i) (is_set (corner k 3) i)) && differ (is_set (corner k 4) i) (is_set (corner k 5) i)) && differ (is_set (corner k 3) i) (is_set (corner k 4) i))
          s2.0
          (λ i. simp (and_set, xor-set)))
          ).equal,
      omega (arith, s1.1, s2.1),
    )
