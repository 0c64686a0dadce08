-- A cell that visits nothing is passed over, in either numbering.
use mathlib.Core.Path.{◌≡◌, refl}
use mathlib.Core.Bool.{Bool, true, false, cond}
use mathlib.Core.List.{List, []}
use Prim.Native.Nat.{ℕ}
use lib.Dec.{eqb}
use Rattle.walk_models.proofs.Idle.{owned_cell-idle, crate_cell-idle}
use Rattle.lent_mesh.specs.Grid.{inside_of}
use Rattle.lent_mesh.specs.Stored.{store_at}
use Rattle.row_walk.specs.Steps.{border, layer_parity, row_parity, PassesOver, cell_step}

pub cell_step-idle : (numbering : ℕ) → PassesOver (cell_step numbering)
unfolding cell_step
cell_step-idle numbering n samples z y x s none =
    rw (crate_cell-idle (store_at n samples) n (inside_of n samples) z y x none (border (layer_parity z) (row_parity n z y) s) refl, owned_cell-idle (store_at n samples) n (inside_of n samples) z y x none s)
    (either (eqb numbering 0))
  where
    either : (b : Bool) → cond b s s ≡ s
    either true = refl
    either false = refl
