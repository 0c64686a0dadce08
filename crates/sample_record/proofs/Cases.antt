-- Records and what is made of them, as one claim over a list: the header of document 01's cases, each refusal, the order of the refusals
-- where several hold, the limits of the library and of the listing program, the four numbers of an answer, and samples.
use mathlib.Core.Path.{◌≡◌, refl}
use mathlib.Core.Bool.{true, false}
use mathlib.Core.List.{List, [], ◌∷◌, ◌++◌, map}
use Prim.Native.Nat.{ℕ, ◌/◌, ◌%◌}
use lib.IntN.{pos, negsuc}
use lib.ListN.{replicate, take}
use lib.Ieee.{Float, nan, fin, of_bits}
use Rattle.std.specs.Prelude.{Result, Ok, Err}
use Rattle.refusals.specs.declared.Refusal.{Refusal}
use Rattle.refusals.specs.declared.Refusal.TheVariants.{Size, Numbering, SampleCount, Malformed}
use Rattle.numbering.specs.declared.Numbering.TheVariants.{Crate, Joined}
use Rattle.sample_record.specs.declared.Header.{Header}
use Rattle.little_endian.specs.Words.{word_at}
use Rattle.sample_record.specs.Record.{record_of, cause_of, place_of, size_of, numbering_of}
use Rattle.record_samples.specs.Samples.{samples_of}

-- a word below 2 ^ 16, lowest byte first
small : ℕ → List ℕ
small n = n % 256 ∷ n / 256 ∷ 0 ∷ 0 ∷ []

-- a record: its five words, and this many zero bytes of samples
made : ℕ → ℕ → ℕ → ℕ → ℕ → ℕ → List ℕ
made version size numbering count offset bytes =
    small version ++ small size ++ small numbering ++ small count ++ small offset ++ replicate bytes 0

-- of a grid with n = 2: twelve samples
grid : ℕ → List ℕ
grid numbering = made 1 2 numbering 12 20 48

-- what is asked: of the library, of the listing program, for the numbers of the library's answer, or for the samples
data Case : Type 0 where
  library : List ℕ → Case
  program : List ℕ → Case
  numbers : List ℕ → Case
  samples : List ℕ → Case

-- cause, place, size and numbering
data Answer : Type 0 where
  is_record : Result Header Refusal → Answer
  is_numbers : ℕ → ℕ → ℕ → ℕ → Answer
  is_samples : List Float → Answer

abbrev answer : Case → Answer
answer (library bytes) = is_record (record_of 128 bytes)
answer (program bytes) = is_record (record_of 7 bytes)
answer (numbers bytes) =
    let found = record_of 128 bytes in
    is_numbers (cause_of found) (place_of found) (size_of found) (numbering_of found)
answer (samples bytes) = is_samples (samples_of bytes)

cases : map answer (
    -- W1 to W6, either numbering
    library (grid 0) ∷
    library (grid 1) ∷
    -- too short: the place is the length
    library [] ∷
    library (take 19 (grid 0)) ∷
    -- the version, which every byte of its word decides
    library (made 0 2 0 12 20 48) ∷
    library (made 257 2 0 12 20 48) ∷
    -- W10: n = 1; and one over the limit
    library (made 1 1 0 2 20 8) ∷
    library (made 1 129 0 12 20 48) ∷
    -- numbering, count, offset
    library (made 1 2 2 12 20 48) ∷
    library (made 1 2 0 13 20 52) ∷
    library (made 1 2 0 12 16 48) ∷
    -- cut by a byte, and longer by one
    library (made 1 2 0 12 20 47) ∷
    library (made 1 2 0 12 20 49) ∷
    -- everything from a field on is wrong: that field is found first
    library (made 2 1 2 0 0 0) ∷
    library (made 1 1 2 0 0 0) ∷
    library (made 1 2 2 0 0 0) ∷
    library (made 1 2 1 0 0 0) ∷
    library (made 1 2 1 12 0 0) ∷
    -- the program tries its own limit where the size is: before the numbering
    library (made 1 8 9 576 20 0) ∷
    program (made 1 8 9 576 20 0) ∷
    program (made 1 7 9 392 20 0) ∷
    -- the numbers of each answer: what the cause does not use is 0
    numbers (grid 1) ∷
    numbers (take 19 (grid 0)) ∷
    numbers (made 1 129 1 12 20 48) ∷
    numbers (made 1 2 2 12 20 48) ∷
    numbers (made 1 2 1 13 20 52) ∷
    -- 1.0, the least value above 0, minus zero, a NaN, and three bytes that are no sample
    samples (take 20 (grid 0) ++ 0 ∷ 0 ∷ 128 ∷ 63 ∷ 1 ∷ 0 ∷ 0 ∷ 0 ∷ 0 ∷ 0 ∷ 0 ∷ 128 ∷ 1 ∷ 0 ∷ 128 ∷ 255 ∷ 7 ∷ 7 ∷ 7 ∷ []) ∷
    []) ≡
    is_record (Ok (record { size = 2; numbering = Crate })) ∷
    is_record (Ok (record { size = 2; numbering = Joined })) ∷
    is_record (Err (Malformed 0)) ∷
    is_record (Err (Malformed 19)) ∷
    is_record (Err (Malformed 0)) ∷
    is_record (Err (Malformed 0)) ∷
    is_record (Err Size) ∷
    is_record (Err Size) ∷
    is_record (Err Numbering) ∷
    is_record (Err SampleCount) ∷
    is_record (Err (Malformed 16)) ∷
    is_record (Err (Malformed 20)) ∷
    is_record (Err (Malformed 20)) ∷
    is_record (Err (Malformed 0)) ∷
    is_record (Err Size) ∷
    is_record (Err Numbering) ∷
    is_record (Err SampleCount) ∷
    is_record (Err (Malformed 16)) ∷
    is_record (Err Numbering) ∷
    is_record (Err Size) ∷
    is_record (Err Numbering) ∷
    is_numbers 0 0 2 1 ∷
    is_numbers 8 19 0 0 ∷
    is_numbers 1 0 0 0 ∷
    is_numbers 2 0 0 0 ∷
    is_numbers 3 0 0 0 ∷
    is_samples (fin false 1 (pos 0) ∷ fin false 1 (negsuc 148) ∷ fin true 0 (pos 0) ∷ nan ∷ []) ∷
    []
unfolding grid made small word_at of_bits
cases = refl
