-- What one turn of a copy into bytes does, and what is there after the last.
use Rattle.std.proofs.Common.{◌≡◌, ℕ, ◌+◌, ◌*◌, ◌<◌, ◌≤◌, min, List, [], ◌∷◌, ◌++◌, length, get_or, take, drop, sym, ap, ◌∙◌, zero-add, add-one, arith}
use Rattle.std.proofs.Math.ListN.{length-take}
use Rattle.std.proofs.Math.Seq.{take-suc, take-length}
use Rattle.std.proofs.lemmas.List.{append-nil}
use Rattle.std.proofs.lemmas.List.Edits.{sets, sets-eq}
use Rattle.little_endian.specs.Words.{word_bytes, bytes_of, over}
use Rattle.little_endian.proofs.Bytes.{bytes_of-length, bytes_of-append, sets-append}

-- the bytes after i turns
abbrev pub put_to : List ℕ → List ℕ → ℕ → List ℕ
put_to bytes l i = sets bytes 0 (bytes_of (take i l))

module _ (bytes l : List ℕ) where
  pub put_to-suc : (i : ℕ) → i < length l → sets (put_to bytes l i) (4 * i) (word_bytes (get_or l i 0)) ≡ put_to bytes l (i + 1)
  put_to-suc i within =
      let taken : take (i + 1) l ≡ take i l ++ (get_or l i 0 ∷ []) = ap (λ (k : ℕ). take k l) (add-one i) ∙ take-suc l i 0 within in
      let more : bytes_of (take (i + 1) l) ≡ bytes_of (take i l) ++ word_bytes (get_or l i 0) =
      ap bytes_of taken ∙ bytes_of-append (take i l) (get_or l i 0 ∷ []) ∙ ap (λ (p : List ℕ). bytes_of (take i l) ++ p) (append-nil (word_bytes (get_or l i 0))) in
      let before : 0 + length (bytes_of (take i l)) ≡ 4 * i =
      zero-add (length (bytes_of (take i l))) ∙ bytes_of-length (take i l) ∙ ap (λ (k : ℕ). 4 * k) (length-take i l ∙ lesser i (length l) within) in
      sym (ap (sets bytes 0) more ∙ sets-append bytes 0 (bytes_of (take i l)) (word_bytes (get_or l i 0))
      ∙ ap (λ (k : ℕ). sets (put_to bytes l i) k (word_bytes (get_or l i 0))) before)
    where
      lesser : (i n : ℕ) → i < n → min i n ≡ i
      lesser i n h = omega arith

  pub put_to-end : (i : ℕ) → i ≡ length l → 4 * length l ≤ length bytes → put_to bytes l i ≡ over (bytes_of l) bytes
  put_to-end i e room =
      let all : take i l ≡ l = ap (λ (k : ℕ). take k l) e ∙ take-length l in
      let fits : 0 + length (bytes_of l) ≤ length bytes = omega (arith, bytes_of-length l) in
      ap (λ (k : List ℕ). sets bytes 0 (bytes_of k)) all ∙ sets-eq (bytes_of l) bytes 0 fits
      ∙ ap (λ (k : ℕ). bytes_of l ++ drop k bytes) (zero-add (length (bytes_of l)))

  pub put_next : (current : List ℕ) (i value : ℕ) (put : List ℕ) → i < length l → current ≡ put_to bytes l i → value ≡ get_or l i 0
      → put ≡ sets current (4 * i) (word_bytes value) → put ≡ put_to bytes l (i + 1)
  put_next current i value put within is found done = done ∙ rw (is, found) (put_to-suc i within)
