-- The answer about a sample record as it crosses the C boundary: document 01's cause and place beside the size and numbering, zero where the
-- cause does not use them.
use Rattle.std.specs.Prelude.{Result}
use Rattle.refusals.specs.declared.Refusal.{Refusal}
use Rattle.sample_record.specs.declared.Header.{Header}
use Rattle.sample_record.specs.Record.{cause_of, place_of, size_of, numbering_of}
use Rattle.record_answer.specs.declared.RecordAnswer.{RecordAnswer}

abbrev pub record_answer : Result Header Refusal → RecordAnswer
record_answer r = record { cause = cause_of r; place = place_of r; size = size_of r; numbering = numbering_of r }
