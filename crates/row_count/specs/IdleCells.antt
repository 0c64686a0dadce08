-- A cell that visits nothing adds nothing, in either numbering.
use mathlib.Core.Path.{◌≡◌, refl, ap, ap₂, ◌∙◌}
use mathlib.Core.Bool.{Bool, true, false, cond}
use mathlib.Core.List.{[]}
use Prim.Native.Nat.{ℕ}
use native.Mathlib.Nat.{add-zero}
use lib.Dec.{eqb}
use Rattle.marching_cubes_tables.specs.Rule.{row_edges}
use Rattle.walk.specs.Walk.{Inside, signs, cell_edges}
use Rattle.walk.specs.Ownership.{new_edges}
use Rattle.walk.proofs.SignByte.{signs-lt}
use Rattle.walk_models.specs.Owned.{cell_new, count_cell}
use Rattle.lent_mesh.specs.Grid.{inside_of}
use Rattle.row_walk.specs.Steps.{layer_parity, row_parity, PassesOver}
use Rattle.held_bits.specs.HeldCell.{Held}
use Rattle.held_bits.proofs.CellSteps.{held_cell-idle}
use Rattle.row_count.specs.Steps.{count_in, with_count, count_step, held_in, beside, counting}

module _ (numbering n : ℕ) (g : Inside) (z y x : ℕ) where
  none-added : (s : Held) → cell_edges g x y z ≡ [] → with_count s (count_cell g z y x (count_in s)) ≡ s
  unfolding cell_new new_edges
  none-added s none = rw (none, add-zero s.made, add-zero s.written) refl

  either : (b : Bool) (s : Held) → cond b s s ≡ s
  either true s = refl
  either false s = refl

  none_named : cell_edges g x y z ≡ [] → row_edges (signs g x y z) ≡ []
  unfolding cell_edges
  none_named none = none

  count_step-idle : (s : Held) → cell_edges g x y z ≡ [] → count_step numbering n g z y x s ≡ s
  unfolding count_step
  count_step-idle s none =
      ap₂ (λ (a b : Held). cond (eqb numbering 0) a b)
      (held_cell-idle n (layer_parity z) (row_parity n z y) x y (signs g x y z) s (signs-lt g x y z) (none_named none)) (none-added s none)
      ∙ either (eqb numbering 0) s

pub counting-idle : (numbering : ℕ) → PassesOver (counting numbering)
counting-idle numbering n samples z y x s none = ap (beside s) (count_step-idle numbering n (inside_of n samples) z y x (held_in s) none)
