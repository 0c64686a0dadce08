-- `cells_inside`: the bits that all eight words have.
use mathlib.Core.Bool.{◌&&◌}
use Rattle.cell_tally.proofs.SetBits.{and_set}
use lib.Bits.{bit_and}
use Rattle.corner_signs.specs.Signs.{four}
use Rattle.cell_tally.specs.Tally.{corner, is_set}
use Rattle.cell_tally.proofs.Tallies.{comes-set}
use Rattle.cell_tally.proofs.Corners.cells_inside.Goals as goal

pub returns : goal.returns
returns c =
    let k = c.args.self in
    let s1 = c.set_in.ensures in (
      (comes-set (bit_and (bit_and (bit_and (bit_and (bit_and (bit_and (bit_and (corner k 0) (corner k 1)) (corner k 2)) (corner k 3)) (corner k 4)) (corner k 5)) (corner k 6)) (corner k 7))
          (λ i. (((four (is_set (corner k 0) i) (is_set (corner k 1) i) (is_set (corner k 2) i) (is_set (corner k 3) i) && is_set (corner k 4) i) && is_set (corner k 5) i) && is_set (corner k 6) i) && is_set (corner k 7) i)
          s1.0
          (λ i. simp and_set)).equal,
      s1.1,
    )
