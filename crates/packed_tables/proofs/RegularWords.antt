-- What a word of the regular cells says of its row: one test over the 256 words. The ranks are those of the new edges, put in the order of the edges.
use mathlib.Core.Path.{◌≡◌, refl, sym, ap, ◌∙◌, subst}
use mathlib.Core.Bool.{Bool, true, false, ◌&&◌}
use mathlib.Core.List.{List, [], ◌∷◌}
use Prim.Native.Nat.{ℕ, ◌+◌, ◌*◌, ◌≤◌, ◌<◌}
use native.Mathlib.Omega.{arith}
use lib.Dec.{T, eqb, eqb→eq, leb, leb→le}
use lib.ListN.{length, get_or}
use Rattle.marching_cubes_tables.specs.Tables.{triangle_connection, row}
use Rattle.marching_cubes_tables.specs.Rule.{named, row_edges, member}
use Rattle.marching_cubes_tables.proofs.Tests.{both_left, both_right}
use Rattle.marching_cubes_tables.proofs.Rows.{every, every-at}
use Rattle.walk.specs.Walk.{bit}
use Rattle.walk.specs.Ownership.{new_edges}
use Rattle.walk.proofs.Below.{all_below, all_below-at}
use Rattle.walk_models.proofs.AnyOrder.{ranked, sorted, apart, all_free}
use Rattle.packed_tables.specs.Regular.{regular_words, unfound, names, rank_of, new_count}
use Rattle.packed_tables.proofs.Words.{alike, alike-eq}
use Rattle.packed_tables.proofs.FirstNamed.{first_named, kept, new_edges-first_named}

-- those of the edges that the word names, with their ranks
abbrev paired : Bool → ℕ → List ℕ → List ℕ
paired true p ps = p ∷ ps
paired false p ps = ps

abbrev pub pairs_of : ℕ → List ℕ → List ℕ
pairs_of word [] = []
pairs_of word (e ∷ es) = paired (names word e) (e + 16 * rank_of word e) (pairs_of word es)

-- the edges that a regular cell can make
abbrev pub six : List ℕ
six = 0 ∷ 5 ∷ 6 ∷ 7 ∷ 10 ∷ 11 ∷ []

-- ---- the test

abbrev order_right : ℕ → List ℕ → Bool
order_right word new = alike (sorted (ranked new)) (pairs_of word six) && all_free apart (ranked new)

abbrev count_right : ℕ → List ℕ → List ℕ → Bool
count_right word es new = eqb (new_count word) (length new) && leb (length new) (length es)

abbrev names_right : ℕ → List ℕ → ℕ → Bool
names_right word es e = eqb (bit (names word e)) (bit (member e es))

abbrev right_by : ℕ → List ℕ → List ℕ → Bool
right_by word es new = all_below 12 (names_right word es) && (order_right word new && count_right word es new)

abbrev right_for : ℕ → List ℕ → Bool
right_for word es = right_by word es (kept unfound (first_named [] es))

abbrev right : ℕ → ℕ → Bool
right s word = right_for word (named (row s))

all_right : T (every right 0 regular_words)
unfolding regular_words triangle_connection
all_right = tt

words-length : length regular_words ≡ 256
unfolding regular_words triangle_connection
words-length = refl

-- ---- what it says

pub record Regular (word : ℕ) (es : List ℕ) : Type 0 where
  pub named-are : (e : ℕ) → e < 12 → names word e ≡ member e es
  pub in_order : sorted (ranked (new_edges unfound es)) ≡ pairs_of word six
  pub all_apart : T (all_free apart (ranked (new_edges unfound es)))
  pub count : new_count word ≡ length (new_edges unfound es)
  pub fewer : new_count word ≤ length es

same_bit : (a b : Bool) → bit a ≡ bit b → a ≡ b
same_bit true true h = refl
same_bit false false h = refl
same_bit true false h = absurd (omega arith)
same_bit false true h = absurd (omega arith)

regular-by : (word : ℕ) (es new : List ℕ) → new ≡ new_edges unfound es → T (right_by word es new) → Regular word es
regular-by word es new e t =
    let order : Bool = order_right word new in
    let sorts : Bool = alike (sorted (ranked new)) (pairs_of word six) in
    let counts : Bool = eqb (new_count word) (length new) in
    let later = both_right (all_below 12 (names_right word es)) (order && count_right word es new) t in
    let in_order = both_left order (count_right word es new) later in
    let counted = both_right order (count_right word es new) later in
    let count = eqb→eq _ _ (both_left counts (leb (length new) (length es)) counted) in
    record {
      named-are = λ k h. same_bit _ _ (eqb→eq _ _ (all_below-at 12 (names_right word es) (both_left (all_below 12 (names_right word es)) (order && count_right word es new) t) k h));
      in_order = ap (λ (l : List ℕ). sorted (ranked l)) (sym e) ∙ alike-eq _ _ (both_left sorts (all_free apart (ranked new)) in_order);
      all_apart = subst (λ (l : List ℕ). T (all_free apart (ranked l))) e (both_right sorts (all_free apart (ranked new)) in_order);
      count = count ∙ ap length e;
      fewer = subst (λ (k : ℕ). k ≤ length es) (sym count) (leb→le _ _ (both_right counts (leb (length new) (length es)) counted));
    }

pub regular-word : (s : ℕ) → s < 256 → Regular (get_or regular_words s 0) (row_edges s)
unfolding row_edges
regular-word s h =
    regular-by (get_or regular_words s 0) (named (row s)) (kept unfound (first_named [] (named (row s)))) (sym (new_edges-first_named unfound (named (row s))))
    (every-at right 0 regular_words all_right s (subst (λ (n : ℕ). s < n) (sym words-length) h))
