-- What each function of the walk may rely on. A private model.
use Rattle.std.specs.Prelude.{List, ℕ, ◌+◌, ◌*◌, ◌≤◌, ◌<◌, length, Float}

-- layer z is one of the grid's, with the samples above it
pub record LayerOf (samples : List Float) (n z : ℕ) : Type 0 where
  pub least : 2 ≤ n
  pub most : n ≤ 128
  pub in-z : z < n
  pub planes : n * n * (z + 2) ≤ length samples
