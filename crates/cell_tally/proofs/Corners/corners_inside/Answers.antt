-- `corners_inside`: the bits of each word.
use mathlib.Core.Path.{refl}
use native.Mathlib.Omega.{arith}
use Rattle.cell_tally.specs.Tally.{corner, is_set}
use Rattle.cell_tally.proofs.Tallies.{comes-plus, comes-set}
use Rattle.cell_tally.proofs.Corners.corners_inside.Goals as goal

pub returns : goal.returns
returns c =
    let s1 = c.set_in.ensures in
    let s2 = c.set_in-2.ensures in
    let s3 = c.set_in-3.ensures in
    let s4 = c.set_in-4.ensures in
    let s5 = c.set_in-5.ensures in
    let s6 = c.set_in-6.ensures in
    let s7 = c.set_in-7.ensures in
    let s8 = c.set_in-8.ensures in
    let k = c.args.self in (
      (comes-plus
          (comes-plus (comes-plus (comes-plus (comes-set (corner k 0) (λ i. is_set (corner k 0) i) s1.0 (λ i. refl)) (comes-set (corner k 1) (λ i. is_set (corner k 1) i) s2.0 (λ i. refl))) (comes-set (corner k 2) (λ i. is_set (corner k 2) i) s3.0 (λ i. refl))) (comes-set (corner k 3) (λ i. is_set (corner k 3) i) s4.0 (λ i. refl)))
          (comes-plus (comes-plus (comes-plus (comes-set (corner k 4) (λ i. is_set (corner k 4) i) s5.0 (λ i. refl)) (comes-set (corner k 5) (λ i. is_set (corner k 5) i) s6.0 (λ i. refl))) (comes-set (corner k 6) (λ i. is_set (corner k 6) i) s7.0 (λ i. refl))) (comes-set (corner k 7) (λ i. is_set (corner k 7) i) s8.0 (λ i. refl)))
          ).equal,
      omega (arith, s1.1, s2.1, s3.1, s4.1, s5.1, s6.1, s7.1, s8.1),
    )
