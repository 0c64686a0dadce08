-- Which cells a grid has, and its coordinates. A private model, which the contracts of the walk's functions cite; the public contracts do not, and
-- nobody need believe it.
use Rattle.std.specs.Prelude.{◌≡◌, List, ℕ, ◌+◌, ◌*◌, ◌≤◌, ◌<◌, length, get_or, Float}
use Rattle.std.specs.Float.{nan}
use Rattle.positions.specs.Position.{step_of, corner_of}

-- the cell (x, y, z) is one of the grid's: its corners are samples
pub record CellOf (samples : List Float) (n x y z : ℕ) : Type 0 where
  pub least : 2 ≤ n
  pub most : n ≤ 128
  pub in-x : x + 1 < n
  pub in-y : y + 1 < n
  pub in-z : z < n
  pub planes : n * n * (z + 2) ≤ length samples

-- the coordinates 0 to n of the grid, each worked out once
abbrev pub Coordinates : ℕ → List Float → Type 0
Coordinates n l = (i : ℕ) → i ≤ n → get_or l i nan ≡ corner_of i (step_of n)
