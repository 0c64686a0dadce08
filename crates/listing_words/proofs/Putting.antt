-- One piece after another is their whole. Every function that puts a word or a line cites `puts_then`.
use mathlib.Core.Path.{◌≡◌, refl, sym, ap, ◌∙◌}
use mathlib.Core.List.{List, [], ◌∷◌, ◌++◌, append_assoc}
use Prim.Native.Nat.{ℕ, ◌+◌, ◌-◌, ◌≤◌}
use native.Mathlib.Nat.{zero-add}
use native.Mathlib.Omega.{arith}
use borrow.Rule.Slice.PartMut.{put_mid, post_of, Post-is}
use lib.ListN.{length, take, drop, set, length-append}
use lib.Seq.{sets, sets-eq, length-sets, take-append_seam}
use Rattle.little_endian.proofs.Bytes.{sets-append}
use Rattle.listing_words.specs.Put.{Put, Puts}
use Rattle.listing_words.specs.declared.Text.{Text}

pub put_then : {a b c p q : List ℕ} {i j k : ℕ} → Put a i p b j → Put b j q c k → Put a i (p ++ q) c k
put_then {a} {b} {c} {p} {q} {i} {j} {k} f s =
    record {
      holds = s.holds ∙ ap (λ (l : List ℕ). sets l j q) f.holds ∙ ap (λ (m : ℕ). sets (sets a i p) m q) f.ends ∙ sym (sets-append a i p q);
      ends = omega (arith, f.ends, s.ends, length-append p q);
    }

pub puts_then : {a b c : Text} {p q : List ℕ} → Puts a p b → Puts b q c → Puts a (p ++ q) c
puts_then f s = record { put = put_then f.put s.put; whole = s.whole ∙ f.whole; lent = s.lent ∙ f.lent }

pub put-length : {a b p : List ℕ} {i j : ℕ} → Put a i p b j → length b ≡ length a
put-length {a} {b} {p} {i} {j} h = ap length h.holds ∙ length-sets a i p

-- one byte more
pub put_byte : {a b p : List ℕ} {i j : ℕ} (byte : ℕ) → Put a i p b j → Put a i (p ++ (byte ∷ [])) (set b j byte) (j + 1)
put_byte byte h = put_then h (record { holds = refl; ends = refl })

-- a part that is copied over
pub put-part : (xs ys piece : List ℕ) (at next : ℕ) → ys ≡ piece → next ≡ at + length piece → next ≤ length xs
    → put_mid at (next - at) xs ys ≡ sets xs at piece
put-part xs ys piece at next same end room =
    let after : post_of at (next - at) xs ≡ drop next xs = Post-is at next xs (omega arith) in
    rw (same, after, end, sets-eq piece xs at (omega arith), append_assoc) refl

-- nothing but the piece, where it began at the front
pub put_front : {a b p : List ℕ} {j : ℕ} → Put a 0 p b j → length p ≤ length a → take j b ≡ p
put_front {a} {b} {p} {j} h room =
    let end : j ≡ length p = h.ends ∙ zero-add (length p) in
    let whole : b ≡ p ++ drop (0 + length p) a = h.holds ∙ sets-eq p a 0 (omega arith) in
    ap (λ (k : ℕ). take k b) end ∙ ap (take (length p)) whole ∙ take-append_seam p (drop (0 + length p) a)
