-- The bytes of a record and the text owed for them: what is known of an accepted record, which samples are lent, and the definition by its test.
-- `list` cites these.
use mathlib.Core.Path.{◌≡◌, refl, sym, ap, ◌∙◌}
use mathlib.Core.List.{List, ◌++◌}
use Prim.Native.Nat.{ℕ, ◌+◌, ◌*◌, ◌≤◌, min}
use native.Mathlib.Nat.{mul-le-mul}
use native.Mathlib.Omega.{arith}
use lib.ListN.{length, take, drop}
use lib.Seq.{take-length, take-append_seam}
use lib.Ieee.{Float}
use borrow.Author.Tests.{ne_eqb}
use Rattle.std.specs.Prelude.{Result, Ok, Err}
use Rattle.refusals.specs.declared.Refusal.{Refusal}
use Rattle.sample_record.specs.declared.Header.{Header}
use Rattle.refusals.specs.Causes.{cause_of, place_of}
use Rattle.numbering.specs.Word.{word_of}
use Rattle.sample_record.specs.Record.{record_of}
use Rattle.sample_record.specs.Record as sample_record
use Rattle.record_samples.specs.Samples.{samples_of, copied}
use Rattle.refusals.proofs.Causes.{cause-some}
use Rattle.listing_words.specs.Put.{Put}
use Rattle.listing_text.specs.Lines.{refused_line}
use Rattle.listing_words.proofs.Putting.{put_front}
use Rattle.listing.specs.Listing.{grid_text, listing_of}

pub sample_count-le : (n : ℕ) → n ≤ 7 → n * n * (n + 1) ≤ 392
sample_count-le n h =
    let more : n + 1 ≤ 8 = omega arith in
    let product : n * n * (n + 1) ≤ 7 * 7 * 8 = mul-le-mul (mul-le-mul h h) more in
    omega arith

pub lent-samples : (bytes : List ℕ) (buffer : List Float) (count : ℕ) → length (samples_of bytes) ≡ count → count ≤ length buffer
    → take count (copied bytes buffer) ≡ samples_of bytes
lent-samples bytes buffer count whole room =
    let all : min (length buffer) (length (samples_of bytes)) ≡ count = omega arith in
    let samples = samples_of bytes in
    let front : take count samples ≡ samples = ap (λ (k : ℕ). take k samples) (sym whole) ∙ take-length samples in
    rw (all, front) (ap (λ (k : ℕ). take k (samples ++ drop count buffer)) (sym whole) ∙ take-append_seam samples (drop count buffer))

-- a record with no cause is an accepted one
pub holds_of : (answer : Result Header Refusal) → sample_record.cause_of answer ≡ 0
    → (header : Header) × (answer ≡ Ok header) × (sample_record.size_of answer ≡ header.size) × (sample_record.numbering_of answer ≡ word_of header.numbering)
holds_of (Ok header) h = (header, refl, refl, refl)
holds_of (Err refusal) h = absurd (cause-some refusal h)

-- ---- the definition by what the record is

module _ (bytes : List ℕ) where
  pub listing-refused : (refusal : Refusal) → record_of 7 bytes ≡ Err refusal → listing_of bytes ≡ refused_line (cause_of refusal) (place_of refusal)
  listing-refused refusal is = rw (is, ne_eqb (cause_of refusal) 0 (cause-some refusal)) refl

  pub listing-grid : (header : Header) → record_of 7 bytes ≡ Ok header → listing_of bytes ≡ grid_text header.size (word_of header.numbering) (samples_of bytes)
  listing-grid header is = rw is refl

-- the text at the front of the program's buffer
pub front_of : (text new piece : List ℕ) (end : ℕ) → Put text 0 piece new end → end ≤ length text → take end new ≡ piece
front_of text new piece end h short = put_front h (omega (arith, h.ends))
