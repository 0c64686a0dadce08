-- What the walk's code does, layer by layer, to the lent lists. A private model, as Steps.antt of row_walk.
use Rattle.std.specs.Prelude.{cond, List, ℕ, suc, ◌-◌, eqb, Float}
use Rattle.walk.specs.Walk.{times}
use Rattle.walk_models.specs.Owned.{cells_of_layer}
use Rattle.walk_models.specs.CacheMemory.{clear_row}
use Rattle.row_walk.specs.Steps.{Hand, row_parity, cell_step}

-- ---- of any step

abbrev pub with_memory : (List ℕ → List ℕ) → Hand → Hand
with_memory f s = record { memory = f s.memory; vertices = s.vertices; indices = s.indices; made = s.made; written = s.written }

module _ (step : ℕ → List Float → ℕ → ℕ → ℕ → Hand → Hand) (ended : ℕ → ℕ → List ℕ → List ℕ) (n : ℕ) (samples : List Float) where
  -- layer z and its end
  abbrev pub layer_done : ℕ → Hand → Hand
  layer_done z s = with_memory (ended n z) (cells_of_layer (step n samples) n z (n - 1) s)

  -- the first k layers
  unfoldable pub layers_done : ℕ → Hand → Hand
  layers_done k s = times k (λ z t. layer_done z t) s

-- ---- of the steps that fill

module _ (numbering n : ℕ) (samples : List Float) where
  -- after the last row of layer z
  unfoldable pub layer_step : ℕ → Hand → Hand
  layer_step z s =
      cond (eqb numbering 0)
      (record { memory = clear_row n (row_parity n (suc z) 0) n s.memory; vertices = s.vertices; indices = s.indices; made = s.made; written = s.written })
      s

  -- the first k layers
  unfoldable pub walk_steps : ℕ → Hand → Hand
  walk_steps k s = times k (λ z t. layer_step z (cells_of_layer (cell_step numbering n samples) n z (n - 1) t)) s
