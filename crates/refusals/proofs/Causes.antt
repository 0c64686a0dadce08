-- No refusal has cause 0, by which an answer is told from a refusal at the C boundary.
use Rattle.std.proofs.Common.{◌≡◌}
use Rattle.refusals.specs.declared.Refusal.{Refusal}
use Rattle.refusals.specs.declared.Refusal.TheVariants.{Size, Numbering, SampleCount, WorkingMemory, Sample, Malformed}
use Rattle.refusals.specs.Causes.{cause_of}

pub cause-some : (refusal : Refusal) → cause_of refusal ≡ 0 → ⊥
cause-some Size h = cc
cause-some Numbering h = cc
cause-some SampleCount h = cc
cause-some WorkingMemory h = cc
cause-some (Sample place) h = cc
cause-some (Malformed place) h = cc
