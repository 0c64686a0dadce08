-- `sign_byte`: after i turns the byte is the sign byte of the first i values.
use Rattle.std.proofs.Common.{◌≡◌, ◌∙◌, length, rules, arith}
use Rattle.marching_cubes_impl.proofs.Signs.{turn_in, turn-out}
use Rattle.marching_cubes_impl.proofs.sign_byte.Goals as goal
use Rattle.marching_cubes_impl.proofs.sign_byte.Goals.{then-value, else-value}

pub loop-i-preserved : goal.loop-i-preserved
loop-i-preserved c =
    let values = c.args.values in
    let i = c.loop-i.i in
    let n : length values ≡ 8 = search rules in (
      search rules,
      elim c.if-value.branch [
        | then-value w ↦ w.signs-is ∙ rw c.loop-i.invariant.1 (turn_in values i (omega arith) (omega arith) w.if-value.true)
        | else-value w ↦ w.signs-is ∙ rw c.loop-i.invariant.1 (turn-out values i (omega arith) w.if-value.false)
      ],
    )
