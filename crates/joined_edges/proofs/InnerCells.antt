-- A cell of class 0: what its marks make is what its list of new edges makes, once the edges are counted.
use mathlib.Core.Path.{◌≡◌, sym, ap, ◌∙◌, subst}
use mathlib.Core.List.{List}
use Prim.Native.Nat.{ℕ, ◌+◌, ◌*◌, ◌/◌, ◌%◌, ◌^◌, ◌<◌}
use lib.ListN.{length, get_or}
use lib.Ieee.{Float}
use Rattle.marching_cubes_tables.specs.Rule.{row_edges}
use Rattle.walk.specs.Walk.{Visit}
use Rattle.walk.specs.Ownership.{new_edges}
use Rattle.walk_models.specs.Owned.{make_edge}
use Rattle.packed_tables.specs.Unpacked.{inner_marked}
use Rattle.packed_tables.specs.Packed.{owned_in, new_words}
use Rattle.packed_tables.proofs.PackedEdges.{unpacked-length}
use Rattle.packed_tables.proofs.Words.{one_by_one}
use Rattle.packed_tables.proofs.Marks.{Marks, marks}
use Rattle.lent_mesh.specs.Grid.{position_at}
use Rattle.lent_mesh.specs.Stored.{store_at}
use Rattle.lent_mesh.proofs.Points.{put_point-exchange}
use Rattle.joined_slots.specs.OneCell.{each}
use Rattle.inner_cells.specs.Ranked.{make_ranked, hand}
use Rattle.inner_cells.proofs.RankedEdges.{marked-made}
use Rattle.joined_edges.proofs.CellWords.{Words}

-- as the code reads the word
pub inner-marks : (class s fresh : ℕ) → class ≡ 0 → s < 256 → fresh ≡ get_or new_words (256 * class + s) 0 → Marks fresh
inner-marks class s fresh ec hs ef = subst Marks (sym (ef ∙ ap (λ (k : ℕ). get_or new_words (256 * k + s) 0) ec)) (marks s hs)

stores-exchange : (n : ℕ) (samples : List Float) (v u : Visit) (i j : ℕ) (b : List Float) → (i ≡ j → ⊥)
    → store_at n samples v i (store_at n samples u j b) ≡ store_at n samples u j (store_at n samples v i b)
stores-exchange n samples v u i j b h = put_point-exchange b j i (position_at n samples u) (position_at n samples v) (λ e. h (sym e))

module _ (samples : List Float) (n x y z class s row fresh : ℕ) (hx : x + 1 < n) (hy : y + 1 < n) (w : Words class s row fresh) (m : Marks fresh) where
  pub inner_made : (work l v : List ℕ) (b c : List Float) (made written made-now : ℕ)
      → hand v c l made written ≡ each (make_ranked (store_at n samples) n z y x) (inner_marked fresh) (hand work b l made written)
      → made-now ≡ made + fresh / 2 ^ 60
      → hand v c l made-now written ≡ each (make_edge (store_at n samples) n z y x) (new_edges (owned_in class) (row_edges s)) (hand work b l made written)
  inner_made work l v b c made written made-now h em =
      let count : made-now ≡ made + length (one_by_one fresh) = em ∙ ap (λ (k : ℕ). made + k) (sym (unpacked-length (fresh / 2 ^ 60) (fresh % 2 ^ 60))) in
      ap (λ (i : ℕ). hand v c l i written) count
      ∙ marked-made (store_at n samples) n x y z hx hy (stores-exchange n samples) (one_by_one fresh) (inner_marked fresh) (hand work b l made written)
      (hand v c l made written) w.new-known m.all_apart m.in_order h
      ∙ ap (λ (es : List ℕ). each (make_edge (store_at n samples) n z y x) es (hand work b l made written)) w.new-edges
