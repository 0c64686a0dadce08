-- Words put at the front of lent bytes, and of the part of them from a place on, as stores one after another. Writers of several runs cite these.
use Rattle.std.proofs.Common.{◌≡◌, ℕ, ◌+◌, ◌-◌, ◌*◌, ◌≤◌, List, [], ◌++◌, length, take, drop, sym, ap, ◌∙◌, zero-add, append_assoc, length-drop, drop-drop, arith}
use Rattle.std.proofs.lemmas.List.{append-nil, drop_all, take_rest}
use Rattle.std.proofs.lemmas.List.Edits.{sets, sets-eq}
use borrow.Rule.Slice.PartMut.{put_mid}
use Rattle.little_endian.specs.Words.{bytes_of, over}
use Rattle.little_endian.proofs.Bytes.{bytes_of-length}

module _ (out new l : List ℕ) where
  pub put_front : 4 * length l ≤ length out → new ≡ over (bytes_of l) out → new ≡ sets out 0 (bytes_of l)
  put_front room is =
      let fits : 0 + length (bytes_of l) ≤ length out = omega (arith, bytes_of-length l) in
      is ∙ sym (sets-eq (bytes_of l) out 0 fits ∙ ap (λ (k : ℕ). bytes_of l ++ drop k out) (zero-add (length (bytes_of l))))

  pub put_part : (at : ℕ) → at + 4 * length l ≤ length out → new ≡ over (bytes_of l) (take (length out - at) (drop at out))
      → put_mid at (length out - at) out new ≡ sets out at (bytes_of l)
  put_part at room is =
      let fits : at + length (bytes_of l) ≤ length out = omega (arith, bytes_of-length l) in
      let after : drop (length out - at) (drop at out) ≡ [] = drop_all (length out - at) (drop at out) (omega (arith, length-drop at out)) in
      let part : new ≡ bytes_of l ++ drop (at + length (bytes_of l)) out =
      is ∙ ap (λ (r : List ℕ). bytes_of l ++ drop (length (bytes_of l)) r) (take_rest out at)
      ∙ ap (λ (r : List ℕ). bytes_of l ++ r) (drop-drop (length (bytes_of l)) at out) in
      ap (λ (r : List ℕ). take at out ++ (new ++ r)) after ∙ ap (λ (r : List ℕ). take at out ++ r) (append-nil new ∙ part)
      ∙ sym (append_assoc (take at out) (bytes_of l) (drop (at + length (bytes_of l)) out)) ∙ sym (sets-eq (bytes_of l) out at fits)
