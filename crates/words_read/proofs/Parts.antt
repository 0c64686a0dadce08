-- Words out of the part of bytes from a place on, copied into the front of a buffer. Readers of several runs cite this.
use Rattle.std.proofs.Common.{◌≡◌, ℕ, ◌+◌, ◌-◌, ◌*◌, ◌≤◌, List, ◌++◌, length, take, drop, map, sym, ap, ap₂, ◌∙◌, length-take, arith}
use Rattle.std.proofs.Math.ListN.{length-map}
use Rattle.std.proofs.lemmas.List.{take_rest}
use Rattle.little_endian.specs.Words.{words_from, over}
use Rattle.little_endian.proofs.Runs.{words_from-length}

module _ {A : Type 0} (f : ℕ → A) (bytes : List ℕ) (buffer new : List A) (at count : ℕ) where
  pub copied_front : at + 4 * count ≤ length bytes → count ≤ length buffer
      → new ≡ map f (words_from (take (length bytes - at) (drop at bytes)) 0 (length (take count buffer)))
      → new ++ drop count buffer ≡ over (map f (words_from bytes at count)) buffer
  copied_front within room is =
      let places : length (take count buffer) ≡ count = omega (arith, length-take count buffer) in
      let run : new ≡ map f (words_from bytes at count) = is ∙ ap₂ (λ (p : List ℕ) (n : ℕ). map f (words_from p 0 n)) (take_rest bytes at) places in
      let long : length (map f (words_from bytes at count)) ≡ count = length-map (words_from bytes at count) f ∙ words_from-length bytes at count within in
      ap (λ (l : List A). l ++ drop count buffer) run ∙ ap (λ (k : ℕ). map f (words_from bytes at count) ++ drop k buffer) (sym long)
