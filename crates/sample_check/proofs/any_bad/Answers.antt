-- `any_bad`: the flag is set exactly where one of the samples so far is bad.
use Rattle.std.proofs.Common.{refl, rules}
use Rattle.sample_check.specs.Samples.{any_bad}
use Rattle.sample_check.proofs.Samples.{flag_suc}
use Rattle.sample_check.proofs.any_bad.Goals as goal

pub loop-sample-init : goal.loop-sample-init
unfolding any_bad
loop-sample-init c = refl

pub loop-sample-preserved : goal.loop-sample-preserved
loop-sample-preserved c =
    rw (c.loop-sample.invariant, c.is_good.ensures) (flag_suc c.args.samples.now c.loop-sample.sample-index (search rules))
