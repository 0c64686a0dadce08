-- What the search for the lowest bad word says of the words where it finds none. The checks, the reader, the writer and the round trips cite these.
use Rattle.std.proofs.Common.{◌≡◌, ◌<◌, ◌≤◌, refl, arith, Bool, true, false, cond, not, ltb, List, [], ◌∷◌, ℕ, length, get_or, map, Some, None}
use lib.ListN.{length-map}
use Rattle.std.specs.List.{prefix_len, position}
use Rattle.std.proofs.lemmas.List.Sums.{prefix_len_passes, prefix_len_is}
use borrow.Author.Tests.{ltb-false, le-ltb}
use Rattle.mesh_record.specs.Refusals.{lowest_bad}

twice-not : (b : Bool) → not (not b) ≡ true → b ≡ true
twice-not true h = refl
twice-not false h = h

not-twice : (b : Bool) → b ≡ true → not (not b) ≡ true
not-twice b h = rw h

past : (n m : ℕ) (b : Bool) → ltb n m ≡ b → cond b (Some n) None ≡ None → m ≤ n
past n m true e h = absurd (cc)
past n m false e h = ltb-false n m e

module _ (test : ℕ → Bool) (l : List ℕ) where
  pub lowest_bad-none : lowest_bad test l ≡ None → (i : ℕ) → i < length l → test (get_or l i 0) ≡ true
  unfolding lowest_bad
  lowest_bad-none h i within =
      let passes = λ (x : ℕ). not (not (test x)) in
      let all : length l ≤ prefix_len passes l = past (prefix_len passes l) (length l) (ltb (prefix_len passes l) (length l)) refl h in
      twice-not (test (get_or l i 0)) (prefix_len_passes passes l i 0 (omega arith))

  pub none-lowest_bad : ((i : ℕ) → i < length l → test (get_or l i 0) ≡ true) → lowest_bad test l ≡ None
  unfolding lowest_bad
  none-lowest_bad h =
      let passes = λ (x : ℕ). not (not (test x)) in
      let all : prefix_len passes l ≡ length l =
      prefix_len_is passes l (length l) 0 (omega arith) (λ k within. not-twice (test (get_or l k 0)) (h k within)) (λ no. absurd (omega arith)) in
      rw (le-ltb (prefix_len passes l) (length l) (omega arith))

-- ---- the library's search is this one, also among what a function makes of a list

pub position-lowest_bad : (test : ℕ → Bool) (l : List ℕ) → position (λ w. not (test w)) l ≡ lowest_bad test l
unfolding lowest_bad
position-lowest_bad test l = refl

module _ {X : Type 0} (f : X → ℕ) (test : ℕ → Bool) where
  first-bad : (l : List X) → prefix_len (λ w. not (not (test w))) (map f l) ≡ prefix_len (λ x. not (not (test (f x)))) l
  first-bad [] = refl
  first-bad (x ∷ l) = rw (first-bad l)

  pub lowest_bad-map : (l : List X) → position (λ x. not (test (f x))) l ≡ lowest_bad test (map f l)
  unfolding lowest_bad
  lowest_bad-map l = rw (first-bad l, length-map l f)
