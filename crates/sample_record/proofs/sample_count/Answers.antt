-- `sample_count`: neither product passes 2 ^ 48.
use native.Mathlib.Omega.{arith}
use Rattle.sample_record.proofs.SampleCount.{square_le, sample_count-le}
use Rattle.sample_record.proofs.sample_count.Goals as goal

pub overflow_mul-result : goal.overflow_mul-result
overflow_mul-result c = omega (arith, square_le c.args.n c.requires)

pub overflow_mul-result-2 : goal.overflow_mul-result-2
overflow_mul-result-2 c = omega (arith, sample_count-le c.args.n c.requires)
