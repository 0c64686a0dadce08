-- `any_bad`: the flag is set exactly where one of the samples so far is bad.
use Rattle.std.proofs.Common.{◌≡◌, take}
use Rattle.sample_check.specs.Samples.{any_bad}
use Rattle.sample_check.proofs.any_bad.Given as goal

abbrev pub invariant-loop-sample : goal.invariant-loop-sample
invariant-loop-sample l = l.bad ≡ any_bad (take l.sample-index l.samples)
