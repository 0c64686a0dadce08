-- The samples of a record by number, and a run of them copied into a buffer. `copy_samples` cites these.
use Rattle.std.proofs.Common.{◌≡◌, ℕ, ◌-◌, ◌/◌, ◌<◌, ◌≤◌, min, ◌⊎◌, inl, inr, Option, Some, None, Bor, List, [], ◌++◌, length, take, drop, map, sym, ap, ap₂, ◌∙◌, length-drop, arith}
use Rattle.std.proofs.Math.ListN.{length-map}
use Rattle.std.proofs.lemmas.List.{drop_all, take-map}
use Rattle.std.proofs.lemmas.Slice.{between_to_end}
use Rattle.std.specs.Option.{unwrap_or}
use Rattle.std.specs.Slice.{IsGetRangeResult}
use Rattle.std.specs.Float.{binary32}
use Rattle.std.specs.Float.Ieee.{Float, of_bits}
use Rattle.little_endian.specs.Words.{words, words_from}
use Rattle.little_endian.proofs.Words.{words-length}
use Rattle.record_samples.specs.Samples.{samples_of, copied}

module _ (bytes : List ℕ) where
  pub samples_of-length : length (samples_of bytes) ≡ (length bytes - 20) / 4
  samples_of-length =
      length-map (words (drop 20 bytes)) (of_bits binary32) ∙ words-length (drop 20 bytes) ∙ ap (λ (n : ℕ). n / 4) (length-drop 20 bytes)

  short : (length bytes < 20) ⊎ (length bytes < length bytes) → length bytes ≤ 20
  short (inl h) = omega arith
  short (inr h) = omega arith

  -- the bytes after the header, or none
  pub after_header : (found : Option (Bor (List ℕ))) (none part : Bor (List ℕ)) → IsGetRangeResult bytes 20 (length bytes) found
      → none.now ≡ [] → part ≡ unwrap_or found none → part.now ≡ drop 20 bytes
  after_header None none part h empty is = ap (λ (b : Bor (List ℕ)). b.now) is ∙ empty ∙ sym (drop_all 20 bytes (short h.0))
  after_header (Some x) none part h empty is = ap (λ (b : Bor (List ℕ)). b.now) is ∙ h.0.2 ∙ between_to_end bytes 20 (length bytes) (omega arith)

module _ (bytes samples : List ℕ) (buffer new : List Float) (count room : ℕ) where
  pub copied-run : samples ≡ drop 20 bytes → count ≡ min (length buffer) (length samples / 4) → room ≡ count
      → new ≡ map (of_bits binary32) (words_from samples 0 room) → new ++ drop count buffer ≡ copied bytes buffer
  copied-run after is whole made =
      let f = of_bits binary32 in
      let run : new ≡ take count (samples_of bytes) =
      made ∙ ap₂ (λ (l : List ℕ) (n : ℕ). map f (take n (words l))) after whole ∙ sym (take-map f count (words (drop 20 bytes))) in
      let lesser : count ≡ min (length buffer) (length (samples_of bytes)) =
      omega (arith, is, samples_of-length bytes, length-drop 20 bytes, ap length after) in
      ap (λ (l : List Float). l ++ drop count buffer) run ∙ ap (λ (k : ℕ). take k (samples_of bytes) ++ drop k buffer) lesser
