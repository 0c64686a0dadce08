-- Document 01's number of each refusal, and the place that is returned with it.
use Rattle.std.specs.Prelude.{ℕ}
use Rattle.refusals.specs.declared.Refusal.{Refusal}
use Rattle.refusals.specs.declared.Refusal.TheVariants.{Size, Numbering, SampleCount, WorkingMemory, Sample, Malformed}

abbrev pub cause_of : Refusal → ℕ
cause_of Size = 1
cause_of Numbering = 2
cause_of SampleCount = 3
cause_of WorkingMemory = 4
cause_of (Sample place) = 5
cause_of (Malformed place) = 8

abbrev pub place_of : Refusal → ℕ
place_of Size = 0
place_of Numbering = 0
place_of SampleCount = 0
place_of WorkingMemory = 0
place_of (Sample place) = place
place_of (Malformed place) = place
