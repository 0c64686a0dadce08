-- What is answered about the bytes of a sample record: document 01, "Record and listing", the checks in its order. Held to each refusal by
-- `proofs/Cases.antt`, and to a twin in Rust by the oracle.
use Rattle.std.specs.Prelude.{Bool, not, ◌||◌, cond, List, ℕ, ◌+◌, ◌*◌, ltb, eqb, length, Result, Ok, Err}
use Rattle.refusals.specs.declared.Refusal.{Refusal}
use Rattle.refusals.specs.declared.Refusal.TheVariants.{Size, Numbering, SampleCount, Malformed}
use Rattle.refusals.specs.Causes as refusals
use Rattle.numbering.specs.declared.Numbering.TheVariants.{Crate, Joined}
use Rattle.numbering.specs.Word.{word_of}
use Rattle.sample_record.specs.declared.Header.{Header}
use Rattle.little_endian.specs.Words.{word_at}

-- the samples of a grid of this size
abbrev pub sample_count : ℕ → ℕ
sample_count n = n * n * (n + 1)

abbrev differ : ℕ → ℕ → Bool
differ a b = not (eqb a b)

-- five words: the version, the size, the numbering, the number of samples and the place where they begin
abbrev pub record_of : ℕ → List ℕ → Result Header Refusal
record_of limit bytes =
    let version = word_at bytes 0 in
    let size = word_at bytes 4 in
    let numbering = word_at bytes 8 in
    let count = word_at bytes 12 in
    let offset = word_at bytes 16 in
    cond (ltb (length bytes) 20) (Err (Malformed (length bytes)))
    (cond (differ version 1) (Err (Malformed 0))
    (cond (ltb size 2 || ltb limit size) (Err Size)
    (cond (ltb 1 numbering) (Err Numbering)
    (cond (differ count (sample_count size)) (Err SampleCount)
    (cond (differ offset 20) (Err (Malformed 16))
    (cond (differ (length bytes) (20 + 4 * count)) (Err (Malformed 20))
    (Ok (record { size = size; numbering = cond (eqb numbering 0) Crate Joined }))))))))

-- document 01's cause and place of an answer, and the size and the numbering word that it gives
abbrev pub cause_of : Result Header Refusal → ℕ
cause_of (Ok header) = 0
cause_of (Err refusal) = refusals.cause_of refusal

abbrev pub place_of : Result Header Refusal → ℕ
place_of (Ok header) = 0
place_of (Err refusal) = refusals.place_of refusal

abbrev pub size_of : Result Header Refusal → ℕ
size_of (Ok header) = header.size
size_of (Err refusal) = 0

abbrev pub numbering_of : Result Header Refusal → ℕ
numbering_of (Ok header) = word_of header.numbering
numbering_of (Err refusal) = 0
