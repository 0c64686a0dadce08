-- `sum`: each masked part is the sum on its axis, and the parts share no bit.
use Rattle.std.proofs.Common.{◌+◌, ◌%◌, ◌^◌}
use Rattle.morton_sums.specs.Interleaved.{X, Y, Z, width, on_axis}
use Rattle.morton_sums.proofs.Carry.{own, others}
use Rattle.morton_sums.proofs.Axis.{sum-on, joined}
use Rattle.morton_sums.proofs.sum.Goals as goal

pub returns : goal.returns
unfolding own others
returns c =
    let a = c.args.a in
    let b = c.args.b in
    joined _ _ _ (λ axis. (on_axis axis a + on_axis axis b) % 2 ^ width axis) (sum-on Z a b) (sum-on Y a b) (sum-on X a b)
