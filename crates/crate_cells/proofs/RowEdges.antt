-- The word of a cell's row: its edges are those that the cell visits, at most fifteen. For `crate_cell`.
use mathlib.Core.Path.{◌≡◌, sym, ap, ◌∙◌, subst}
use mathlib.Core.List.{List}
use Prim.Native.Nat.{ℕ, ◌*◌, ◌/◌, ◌%◌, ◌^◌, ◌≤◌, ◌<◌}
use lib.ListN.{length, get_or}
use Rattle.marching_cubes_tables.specs.Rule.{row_edges}
use Rattle.walk.specs.Walk.{Inside, signs, cell_edges}
use Rattle.walk.proofs.SignByte.{signs-lt}
use Rattle.walk.proofs.CellEdges.{cell_edges-lt, cell_edges-most}
use Rattle.packed_tables.specs.Packed.{row_words}
use Rattle.packed_tables.specs.Unpacked.{Edges}
use Rattle.packed_tables.proofs.Words.{in_threes, row_word}
use Rattle.packed_tables.proofs.PackedEdges.{unpacked-length, edges-of-each}

module _ (g : Inside) (x y z case : ℕ) (byte : case ≡ signs g x y z) where
  pub case-lt : case < 256
  case-lt = subst (λ (s : ℕ). s < 256) (sym byte) (signs-lt g x y z)

  module _ (rows : List ℕ) (table : rows ≡ row_words) where
    pub row-edges : in_threes (get_or rows case 0) ≡ cell_edges g x y z
    unfolding cell_edges
    row-edges = ap (λ (l : List ℕ). in_threes (get_or l case 0)) table ∙ row_word case case-lt ∙ ap row_edges byte

    pub row-edges-all : Edges (in_threes (get_or rows case 0))
    row-edges-all = subst Edges (sym row-edges) (edges-of-each (cell_edges g x y z) (cell_edges-lt g x y z))

    pub row_count : 3 * (get_or rows case 0 / 2 ^ 60) ≤ 15
    row_count =
        let word : ℕ = get_or rows case 0 in
        subst (λ (k : ℕ). k ≤ 15) (sym (ap length row-edges) ∙ unpacked-length (3 * (word / 2 ^ 60)) (word % 2 ^ 60)) (cell_edges-most g x y z)
