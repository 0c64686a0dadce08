-- What is known of a record that was taken: its size is within the limit, and it has the samples of that size, all of them and no more.
-- Whoever goes on from `record_in` to the samples cites these.
use mathlib.Core.Path.{◌≡◌, refl, sym, ap, ◌∙◌, subst}
use mathlib.Core.Bool.{Bool, true, false, not, ◌||◌, cond}
use mathlib.Core.List.{List}
use Prim.Native.Nat.{ℕ, zero, suc, ◌+◌, ◌*◌, ◌-◌, ◌/◌, ◌≤◌}
use native.Mathlib.Omega.{arith}
use lib.Dec.{T, ltb, eqb}
use lib.ListN.{length}
use borrow.Author.Tests.{ltb-false, eqb-true, not-false}
use Rattle.std.specs.Prelude.{Ok, Err}
use Rattle.refusals.specs.declared.Refusal.TheVariants.{Size, Numbering, SampleCount, Malformed}
use Rattle.numbering.specs.declared.Numbering.TheVariants.{Crate, Joined}
use Rattle.numbering.specs.Word.{word_of}
use Rattle.sample_record.specs.declared.Header.{Header}
use Rattle.little_endian.specs.Words.{word_at}
use Rattle.sample_record.specs.Record.{sample_count, record_of}
use Rattle.record_samples.specs.Samples.{samples_of}
use Rattle.record_samples.proofs.Copy.{samples_of-length}

pub record Accepted (limit : ℕ) (bytes : List ℕ) (size numbering : ℕ) : Type 0 where
  pub least : 2 ≤ size
  pub most : size ≤ limit
  pub numbering-word : numbering ≤ 1
  pub whole : length bytes ≡ 20 + 4 * sample_count size
  pub samples : length (samples_of bytes) ≡ sample_count size

-- no check refused, and what is left is the answer: `cc` tells an `Ok` from every refusal
taken : (short version size-out numbering-out count offset length-out : Bool) (place : ℕ) (found header : Header)
    → cond short (Err (Malformed place)) (cond version (Err (Malformed 0)) (cond size-out (Err Size) (cond numbering-out (Err Numbering)
    (cond count (Err SampleCount) (cond offset (Err (Malformed 16)) (cond length-out (Err (Malformed 20)) (Ok found))))))) ≡ Ok header
    → (size-out ≡ false) × (numbering-out ≡ false) × (count ≡ false) × (length-out ≡ false) × (found ≡ header)
taken true b c d e f g place found header h = absurd (cc)
taken false true c d e f g place found header h = absurd (cc)
taken false false true d e f g place found header h = absurd (cc)
taken false false false true e f g place found header h = absurd (cc)
taken false false false false true f g place found header h = absurd (cc)
taken false false false false false true g place found header h = absurd (cc)
taken false false false false false false true place found header h = absurd (cc)
taken false false false false false false false place found header h = (refl, refl, refl, refl, cc)

neither_left : (a b : Bool) → a || b ≡ false → a ≡ false
neither_left false b h = refl
neither_left true b h = h

neither_right : (a b : Bool) → a || b ≡ false → b ≡ false
neither_right false b h = h
neither_right true b h = absurd (subst T h tt)

quarter : (k : ℕ) → (20 + 4 * k - 20) / 4 ≡ k
quarter k = omega arith

word_of-named : (word : ℕ) → word ≤ 1 → word_of (cond (eqb word 0) Crate Joined) ≡ word
word_of-named zero h = refl
word_of-named (suc zero) h = refl
word_of-named (suc (suc word)) h = absurd (omega arith)

module _ (limit : ℕ) (bytes : List ℕ) (header : Header) (held : record_of limit bytes ≡ Ok header) where
  pub record_of-accepted : Accepted limit bytes header.size (word_of header.numbering)
  record_of-accepted =
      let n = word_at bytes 4 in
      let asked : Header = record { size = n; numbering = cond (eqb (word_at bytes 8) 0) Crate Joined } in
      let all = taken (ltb (length bytes) 20) (not (eqb (word_at bytes 0) 1)) (ltb n 2 || ltb limit n) (ltb 1 (word_at bytes 8))
      (not (eqb (word_at bytes 12) (sample_count n))) (not (eqb (word_at bytes 16) 20)) (not (eqb (length bytes) (20 + 4 * word_at bytes 12)))
      (length bytes) asked header held in
      let size : n ≡ header.size = ap (λ (h : Header). h.size) all.4 in
      let least : 2 ≤ n = ltb-false n 2 (neither_left (ltb n 2) (ltb limit n) all.0) in
      let most : n ≤ limit = ltb-false limit n (neither_right (ltb n 2) (ltb limit n) all.0) in
      let word : word_at bytes 8 ≤ 1 = ltb-false 1 (word_at bytes 8) all.1 in
      let named : word_of header.numbering ≡ word_at bytes 8 = ap (λ (h : Header). word_of h.numbering) (sym all.4) ∙ word_of-named (word_at bytes 8) word in
      let count : word_at bytes 12 ≡ sample_count header.size = eqb-true (word_at bytes 12) (sample_count n) (not-false _ all.2) ∙ ap sample_count size in
      let length : length bytes ≡ 20 + 4 * word_at bytes 12 = eqb-true (length bytes) (20 + 4 * word_at bytes 12) (not-false _ all.3) in
      record {
        least = omega (arith, size);
        most = omega (arith, size);
        numbering-word = omega (arith, named);
        whole = length ∙ ap (λ (k : ℕ). 20 + 4 * k) count;
        samples = rw (samples_of-length bytes, length, count) (quarter (sample_count header.size));
      }
