-- What is known of a regular cell by its two words: the edges of its row, how many they are, and what is new among them. For `regular_visits`.
use mathlib.Core.Path.{◌≡◌, sym, ap, ◌∙◌, subst}
use mathlib.Core.Bool.{true}
use mathlib.Core.List.{List}
use Prim.Native.Nat.{ℕ, ◌*◌, ◌/◌, ◌%◌, ◌^◌, ◌≤◌}
use lib.Dec.{eqb}
use lib.ListN.{length, get_or}
use Rattle.marching_cubes_tables.specs.Rule.{row_edges, member}
use Rattle.marching_cubes_tables.proofs.Rule.{row-rule}
use Rattle.packed_tables.specs.Regular.{unfound, new_count}
use Rattle.packed_tables.specs.Unpacked.{Edges}
use Rattle.packed_tables.proofs.PackedEdges.{unpacked-length, edges-of-each}
use Rattle.packed_tables.proofs.RegularWords.{Regular, regular-word}
use Rattle.packed_tables.proofs.Words.{in_threes, row_word}
use Rattle.regular_cells.specs.RegularCell.{RegularOf}

module _ (regular word : ℕ) (current : List ℕ) (o : RegularOf regular word current) where
  row_is : row_edges o.case ≡ in_threes word
  row_is = sym (ap in_threes o.word-is ∙ row_word o.case o.case-lt)

  pub row-known : Edges (in_threes word)
  row-known = subst Edges row_is (edges-of-each (row_edges o.case) (row-rule o.case o.case-lt).edge)

  row-length : length (in_threes word) ≡ 3 * (word / 2 ^ 60)
  row-length = unpacked-length (3 * (word / 2 ^ 60)) (word % 2 ^ 60)

  pub row-most : 3 * (word / 2 ^ 60) ≤ 15
  row-most = subst (λ (k : ℕ). k ≤ 15) (ap length row_is ∙ row-length) (row-rule o.case o.case-lt).most

  pub row-regular : Regular regular (in_threes word)
  row-regular =
      subst (Regular regular) row_is (subst (λ (k : ℕ). Regular k (row_edges o.case)) (sym o.regular-is) (regular-word o.case o.case-lt))

  pub row-fewer : new_count regular ≤ 3 * (word / 2 ^ 60)
  row-fewer = subst (λ (k : ℕ). new_count regular ≤ k) row-length row-regular.fewer

  pub row-absent : (e : ℕ) → member e (in_threes word) ≡ true → eqb (get_or current e 0) 0 ≡ unfound e
  row-absent e m = o.absent e (ap (member e) row_is ∙ m)
