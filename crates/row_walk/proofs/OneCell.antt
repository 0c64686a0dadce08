-- One cell of either numbering, from what the numberings' own functions promise.
use mathlib.Core.Path.{◌≡◌, ap, ◌∙◌}
use mathlib.Core.List.{List}
use Prim.Native.Nat.{ℕ, ◌+◌, ◌%◌, ◌≤◌, ◌<◌}
use native.Mathlib.Omega.{arith}
use lib.Ieee.{Float}
use Rattle.walk.specs.Walk.{cell}
use Rattle.walk_models.specs.Lent.{lent_hooks}
use Rattle.walk_models.specs.Owned.{owned_cell}
use Rattle.walk_models.specs.CacheMemory.{crate_memory}
use Rattle.lent_mesh.specs.Grid.{inside_of}
use Rattle.lent_mesh.specs.Stored.{store_at, CellOf}
use Rattle.row_walk.specs.Steps.{Hand, border, unborder, layer_parity, row_parity, cell_step}
use Rattle.row_walk.specs.Ready.{LayerOf}

module _ (n : ℕ) (samples : List Float) (z y x : ℕ) (s t : Hand) where
  pub crate-step : (layer row : ℕ) → layer ≡ layer_parity z → row ≡ row_parity n z y
      → border layer row t ≡ cell (lent_hooks (crate_memory n) (store_at n samples)) (inside_of n samples) n z y x (border layer row s)
      → t ≡ cell_step 0 n samples z y x s
  unfolding cell_step
  crate-step layer row l r e = ap unborder e ∙ rw (l, r)

  pub joined_step : t ≡ owned_cell (store_at n samples) n (inside_of n samples) z y x s → t ≡ cell_step 1 n samples z y x s
  unfolding cell_step
  joined_step e = e

pub parity-le : (k : ℕ) → k % 2 ≤ 1
parity-le k = omega arith

-- a cell of a layer
pub cell-of-layer : (samples : List Float) (n x y z : ℕ) → LayerOf samples n z → y + 1 < n → x + 1 < n → CellOf samples n x y z
cell-of-layer samples n x y z l k h =
    record { least = l.least; most = l.most; in-x = h; in-y = k; in-z = l.in-z; planes = l.planes }
