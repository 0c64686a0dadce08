-- What a word of the two tables holds: one test over each table, and what it says of an entry.
use mathlib.Core.Path.{◌≡◌, refl, sym, ap, ap₂, ◌∙◌, subst}
use mathlib.Core.Bool.{Bool, true, false, ◌&&◌}
use mathlib.Core.List.{List, [], ◌∷◌}
use Prim.Native.Nat.{ℕ, zero, suc, ◌+◌, ◌*◌, ◌/◌, ◌%◌, ◌^◌, ◌<◌}
use native.Mathlib.Nat.{le_of_suc-le-suc, not-suc-le-zero}
use lib.Dec.{T, eqb, eqb→eq}
use lib.IntN.{ℤ}
use lib.ListN.{length, get_or}
use Rattle.marching_cubes_tables.specs.Tables.{triangle_connection, row}
use Rattle.marching_cubes_tables.specs.Rule.{named, row_edges}
use Rattle.marching_cubes_tables.proofs.Tests.{both_left, both_right}
use Rattle.marching_cubes_tables.proofs.Rows.{every, every-at, wide, flat-at}
use Rattle.walk.specs.Ownership.{owned, new_edges}
use Rattle.packed_tables.specs.Unpacked.{unpacked}
use Rattle.packed_tables.specs.Packed.{owned_in, row_words, new_words_by_class, new_words}
use Rattle.packed_tables.proofs.FirstNamed.{first_named, kept, new_edges-first_named}

abbrev pub alike : List ℕ → List ℕ → Bool
alike [] [] = true
alike [] (b ∷ bs) = false
alike (a ∷ as₀) [] = false
alike (a ∷ as₀) (b ∷ bs) = eqb a b && alike as₀ bs

pub alike-eq : (as₀ bs : List ℕ) → T (alike as₀ bs) → as₀ ≡ bs
alike-eq [] [] t = refl
alike-eq [] (b ∷ bs) t = absurd t
alike-eq (a ∷ as₀) [] t = absurd t
alike-eq (a ∷ as₀) (b ∷ bs) t =
    ap₂ (λ (x : ℕ) (xs : List ℕ). x ∷ xs) (eqb→eq a b (both_left (eqb a b) (alike as₀ bs) t)) (alike-eq as₀ bs (both_right (eqb a b) (alike as₀ bs) t))

-- the edges of a word whose highest four bits count them in threes, or one by one
abbrev pub in_threes : ℕ → List ℕ
in_threes word = unpacked (3 * (word / 2 ^ 60)) (word % 2 ^ 60)

abbrev pub one_by_one : ℕ → List ℕ
one_by_one word = unpacked (word / 2 ^ 60) (word % 2 ^ 60)

-- ---- rows

abbrev row_right : ℕ → ℕ → Bool
row_right s word = alike (in_threes word) (named (row s))

rows_right : T (every row_right 0 row_words)
unfolding row_words unpacked triangle_connection
rows_right = tt

rows-length : length row_words ≡ 256
unfolding row_words
rows-length = refl

pub row_word : (s : ℕ) → s < 256 → in_threes (get_or row_words s 0) ≡ row_edges s
unfolding row_edges
row_word s h = alike-eq _ _ (every-at row_right 0 row_words rows_right s (subst (λ (n : ℕ). s < n) (sym rows-length) h))

-- ---- new edges

-- three for each triangle of the row
abbrev pub indices_of : ℕ → ℕ
indices_of word = 3 * (word / 2 ^ 56 % 16)

abbrev edges_right : ℕ → ℕ → List ℤ → Bool
edges_right class word r = alike (one_by_one word) (kept (owned_in class) (first_named [] (named r)))

abbrev indices_right : ℕ → List ℤ → Bool
indices_right word r = eqb (indices_of word) (length (named r))

abbrev new_right : ℕ → ℕ → List ℤ → Bool
new_right class word r = edges_right class word r && indices_right word r

-- word by word and row by row
abbrev class_right : ℕ → List ℕ → List (List ℤ) → Bool
class_right class [] rows = true
class_right class (word ∷ words) [] = false
class_right class (word ∷ words) (r ∷ rows) = new_right class word r && class_right class words rows

class-at : (class : ℕ) (words : List ℕ) (rows : List (List ℤ)) → T (class_right class words rows) → (s : ℕ) → s < length words
    → T (new_right class (get_or words s 0) (get_or rows s []))
class-at class [] rows t s h = absurd (not-suc-le-zero h)
class-at class (word ∷ words) [] t s h = absurd t
class-at class (word ∷ words) (r ∷ rows) t zero h = both_left (new_right class word r) (class_right class words rows) t
class-at class (word ∷ words) (r ∷ rows) t (suc s) h = class-at class words rows (both_right (new_right class word r) (class_right class words rows) t) s (le_of_suc-le-suc h)

classes-right : T (every (λ class words. class_right class words triangle_connection) 0 new_words_by_class)
unfolding new_words_by_class unpacked owned triangle_connection
classes-right = tt

classes-wide : T (wide 256 new_words_by_class)
unfolding new_words_by_class
classes-wide = tt

classes-length : length new_words_by_class ≡ 8
unfolding new_words_by_class
classes-length = refl

pub class-length : (class : ℕ) → class < 8 → length (get_or new_words_by_class class []) ≡ 256
class-length class h = wide_at 256 new_words_by_class classes-wide class (subst (λ (n : ℕ). class < n) (sym classes-length) h)
  where
    wide_at : (n : ℕ) (ls : List (List ℕ)) → T (wide n ls) → (k : ℕ) → k < length ls → length (get_or ls k []) ≡ n
    wide_at n [] t k h = absurd (not-suc-le-zero h)
    wide_at n (l ∷ ls) t zero h = eqb→eq (length l) n (both_left (eqb (length l) n) (wide n ls) t)
    wide_at n (l ∷ ls) t (suc k) h = wide_at n ls (both_right (eqb (length l) n) (wide n ls) t) k (le_of_suc-le-suc h)

module _ (class s : ℕ) (hc : class < 8) (hs : s < 256) where
  abbrev pub word : ℕ
  word = get_or (get_or new_words_by_class class []) s 0

  pub word_at : get_or new_words (256 * class + s) 0 ≡ word
  unfolding new_words
  word_at = flat-at 256 0 new_words_by_class classes-wide class s (subst (λ (n : ℕ). class < n) (sym classes-length) hc) hs

  word-right : T (new_right class word (row s))
  word-right =
      class-at class (get_or new_words_by_class class []) triangle_connection
      (every-at (λ class words. class_right class words triangle_connection) [] new_words_by_class classes-right class (subst (λ (n : ℕ). class < n) (sym classes-length) hc))
      s (subst (λ (n : ℕ). s < n) (sym (class-length class hc)) hs)

  pub new_word : one_by_one (get_or new_words (256 * class + s) 0) ≡ new_edges (owned_in class) (row_edges s)
  unfolding row_edges
  new_word =
      ap one_by_one word_at
      ∙ alike-eq _ _ (both_left (edges_right class word (row s)) (indices_right word (row s)) word-right)
      ∙ sym (new_edges-first_named (owned_in class) (named (row s)))

  pub new-word-row : indices_of (get_or new_words (256 * class + s) 0) ≡ length (row_edges s)
  unfolding row_edges
  new-word-row = ap indices_of word_at ∙ eqb→eq _ _ (both_right (edges_right class word (row s)) (indices_right word (row s)) word-right)
