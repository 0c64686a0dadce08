-- Lines of three words, one after another: which words stand in which line, and how much room they take. `put_lines` cites these.
use mathlib.Core.Path.{◌≡◌, refl, sym, ap, ◌∙◌, subst}
use mathlib.Core.List.{List, [], ◌++◌, append_assoc}
use Prim.Native.Nat.{ℕ, ◌+◌, ◌*◌, ◌/◌, ◌≤◌, ◌<◌}
use native.Mathlib.Nat.{add-zero, mul-suc, mul-le-mul_left}
use native.Mathlib.Numerals.{add-one}
use native.Mathlib.Omega.{arith}
use lib.ListN.{length, get_or, length-append, get_or-append}
use Rattle.std.proofs.lemmas.List.{get_or-append-add, get_or_default}
use Rattle.listing_words.specs.declared.Text.{Text}
use Rattle.listing_words.specs.Put.{HasRoom, Puts}
use Rattle.listing_words.proofs.Putting.{puts_then}
use Rattle.listing_runs.specs.Runs.{line, lines_of, line_at}

-- k lines of the words are put, and the rest of the words is left
pub record Listed {W : Type 0} (letter : ℕ) (word : W → List ℕ) (missing : W) (most : ℕ) (words : List W) (old new : Text) (rest : List W) (k : ℕ) : Type 0 where
  pub puts : Puts old (lines_of k (line_at letter word missing words)) new
  pub room : new.end ≤ old.end + (2 + 3 * most) * k
  pub front : List W
  pub split : words ≡ front ++ rest
  pub count : length front ≡ 3 * k

each-more : (each k : ℕ) → each * (k + 1) ≡ each * k + each
each-more each k = rw add-one (mul-suc each k)

pub listed-none : {W : Type 0} (letter : ℕ) (word : W → List ℕ) (missing : W) (most : ℕ) (words : List W) (text : Text)
    → Listed letter word missing most words text text words 0
listed-none letter word missing most words text =
    record { puts = record { put = record { holds = refl; ends = omega arith }; whole = refl; lent = refl }; room = omega arith; front = []; split = refl; count = refl }

module _ {W : Type 0} (letter : ℕ) (word : W → List ℕ) (missing : W) (most : ℕ) (words : List W) (old new : Text) (rest : List W) (k : ℕ)
    (here : Listed letter word missing most words old new rest k) where
  -- where a whole line's words are left, there is room for it
  pub room-more : 3 ≤ length rest → HasRoom old ((2 + 3 * most) * (length words / 3)) → HasRoom new (2 + 3 * most)
  room-more some room =
      let all = ap length here.split in
      let line : k + 1 ≤ length words / 3 = omega (arith, all, here.count, length-append here.front rest) in
      let lines : (2 + 3 * most) * (k + 1) ≤ (2 + 3 * most) * (length words / 3) = mul-le-mul_left (2 + 3 * most) line in
      let product : (2 + 3 * most) * (k + 1) ≡ (2 + 3 * most) * k + (2 + 3 * most) = each-more (2 + 3 * most) k in
      let before = here.room in
      let same = here.puts.whole in
      omega arith

  -- where they are not, every line is put
  pub all-listed : length rest < 3 → Listed letter word missing most words old new rest (length words / 3)
  all-listed few =
      let all = ap length here.split in
      let last : k ≡ length words / 3 = omega (arith, all, here.count, length-append here.front rest) in
      subst (Listed letter word missing most words old new rest) last here

  module _ (three after : List W) (cut : rest ≡ three ++ after) (whole : length three ≡ 3) where
    -- a word of line k is one of the next three
    word-of : (j : ℕ) (x : W) → j < 3 → x ≡ get_or three j x → get_or words (3 * k + j) missing ≡ x
    word-of j x h is =
        rw (here.split, cut, ← here.count, get_or-append-add here.front (three ++ after) j missing, get_or-append three after missing j (omega arith))
        (get_or_default three j missing x (omega arith) ∙ sym is)

    pub listed-more : {next : Text} (a b c : W) → a ≡ get_or three 0 a → b ≡ get_or three 1 b → c ≡ get_or three 2 c
        → Puts new (line letter word a b c) next → next.end ≤ new.end + (2 + 3 * most) → Listed letter word missing most words old next after (k + 1)
    listed-more {next} a b c is-a is-b is-c one ends =
        let first : get_or words (3 * k) missing ≡ a = rw add-zero at (word-of 0 a (omega arith) is-a) in
        let second = word-of 1 b (omega arith) is-b in
        let third = word-of 2 c (omega arith) is-c in
        let same : line_at letter word missing words k ≡ line letter word a b c = rw (first, second, third) refl in
        let before = here.room in
        record {
          puts = rw (add-one k) (puts_then here.puts (subst (λ (l : List ℕ). Puts new l next) (sym same) one));
          room = rw (each-more (2 + 3 * most) k) (omega arith);
          front = here.front ++ three;
          split = here.split ∙ ap (λ (l : List W). here.front ++ l) cut ∙ sym (append_assoc here.front three after);
          count = omega (arith, here.count, length-append here.front three);
        }
