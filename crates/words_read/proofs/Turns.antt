-- What one turn of a copy out of bytes does, and what is there after the last.
use Rattle.std.proofs.Common.{◌≡◌, ℕ, ◌+◌, ◌*◌, ◌<◌, ◌≤◌, List, ◌++◌, length, get_or, take, drop, map, sym, ap, ◌∙◌, zero-add, add-one, arith}
use Rattle.std.proofs.Math.ListN.{set, length-map}
use Rattle.std.proofs.Math.Seq.{paste-suc, take-length}
use Rattle.std.proofs.lemmas.List.{append-nil, drop_all, get_or-map}
use Rattle.little_endian.specs.Words.{word_at, words_from}
use Rattle.little_endian.proofs.Runs.{words_from-length, words_from-at}

-- the buffer after i turns
abbrev pub copied_to : {A : Type 0} → List A → List A → ℕ → List A
copied_to l buffer i = take i l ++ drop i buffer

module _ {A : Type 0} (l buffer : List A) where
  pub copied_to-suc : (i : ℕ) (d : A) → i < length l → i < length buffer → set (copied_to l buffer i) i (get_or l i d) ≡ copied_to l buffer (i + 1)
  copied_to-suc i d within room =
      let turn = paste-suc buffer 0 l i d (omega arith) within in
      simp (zero-add, ← add-one) at turn

  pub copied_to-end : (current : List A) (i : ℕ) → current ≡ copied_to l buffer i → i ≡ length l → length buffer ≤ i → current ≡ l
  copied_to-end current i is e all = is ∙ rw (drop_all i buffer all, e, take-length l) (append-nil l)

  pub copied_next : (current : List A) (i : ℕ) (d value : A) → i < length l → i < length buffer → current ≡ copied_to l buffer i → value ≡ get_or l i d
      → set current i value ≡ copied_to l buffer (i + 1)
  copied_next current i d value within room is found = rw (is, found) (copied_to-suc i d within room)

-- the words at the front of the bytes, each as f makes it
module _ {A : Type 0} (f : ℕ → A) (bytes : List ℕ) (count : ℕ) (enough : 4 * count ≤ length bytes) where
  pub copied-length : length (map f (words_from bytes 0 count)) ≡ count
  copied-length = length-map (words_from bytes 0 count) f ∙ words_from-length bytes 0 count (omega arith)

  pub copied-at : (i word : ℕ) (value : A) → i < count → word ≡ word_at bytes (4 * i) → value ≡ f word → value ≡ get_or (map f (words_from bytes 0 count)) i value
  copied-at i word value here read made =
      let within : i < length (words_from bytes 0 count) = omega (arith, words_from-length bytes 0 count (omega arith)) in
      let place : word ≡ get_or (words_from bytes 0 count) i 0 =
      read ∙ ap (word_at bytes) (sym (zero-add (4 * i))) ∙ sym (words_from-at bytes 0 count (omega arith) i here) in
      made ∙ ap f place ∙ sym (get_or-map f (words_from bytes 0 count) i 0 value within)
