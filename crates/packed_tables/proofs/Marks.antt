-- The marks of a word of class 0: they are those of its list, put in the order of the edges, and the edges of the list differ. One test over the class.
use mathlib.Core.Path.{◌≡◌, sym, subst}
use mathlib.Core.Bool.{Bool, ◌&&◌}
use mathlib.Core.List.{List, []}
use Prim.Native.Nat.{ℕ, ◌+◌, ◌*◌, ◌<◌}
use lib.Dec.{T, lit<}
use lib.ListN.{get_or}
use Rattle.marching_cubes_tables.proofs.Tests.{both_left, both_right}
use Rattle.marching_cubes_tables.proofs.Rows.{every, every-at}
use Rattle.walk_models.proofs.AnyOrder.{ranked, sorted, apart, all_free}
use Rattle.packed_tables.specs.Unpacked.{unpacked, inner_marked}
use Rattle.packed_tables.specs.Packed.{new_words_by_class, new_words}
use Rattle.packed_tables.proofs.Words.{alike, alike-eq, one_by_one, class-length, word_at}

abbrev in_order_test : ℕ → Bool
in_order_test word = alike (sorted (ranked (one_by_one word))) (inner_marked word)

abbrev mark_right : ℕ → ℕ → Bool
mark_right s word = in_order_test word && all_free apart (ranked (one_by_one word))

abbrev inner : List ℕ
inner = get_or new_words_by_class 0 []

marks-right : T (every mark_right 0 inner)
unfolding new_words_by_class unpacked
marks-right = tt

pub record Marks (word : ℕ) : Type 0 where
  pub in_order : sorted (ranked (one_by_one word)) ≡ inner_marked word
  pub all_apart : T (all_free apart (ranked (one_by_one word)))

mark-right : (s : ℕ) → s < 256 → T (mark_right s (get_or new_words (256 * 0 + s) 0))
mark-right s h =
    subst (λ (w : ℕ). T (mark_right s w)) (sym (word_at 0 s (lit< tt) h))
    (every-at mark_right 0 inner marks-right s (subst (λ (n : ℕ). s < n) (sym (class-length 0 (lit< tt))) h))

pub marks : (s : ℕ) → s < 256 → Marks (get_or new_words (256 * 0 + s) 0)
marks s h =
    let word : ℕ = get_or new_words (256 * 0 + s) 0 in
    let right = mark-right s h in
    let apart-test : Bool = all_free apart (ranked (one_by_one word)) in
    record { in_order = alike-eq _ _ (both_left (in_order_test word) apart-test right); all_apart = both_right (in_order_test word) apart-test right }
