-- What the count's code does, layer by layer. A private model, as Steps.antt of row_count, which has a cell; `proofs/CountedMesh.antt` proves that it comes to
-- the defined mesh.
use Rattle.std.specs.Prelude.{cond, ℕ, suc, ◌-◌, eqb}
use Rattle.walk.specs.Walk.{Inside, times}
use Rattle.walk_models.specs.Owned.{cells_of_layer}
use Rattle.row_walk.specs.Steps.{row_parity}
use Rattle.held_bits.specs.HeldCell.{Held, clear_held}
use Rattle.row_count.specs.Steps.{count_step}

module _ (numbering n : ℕ) (g : Inside) where
  -- after the last row of layer z
  unfoldable pub end_step : ℕ → Held → Held
  end_step z s =
      cond (eqb numbering 0) (record { work = clear_held n (row_parity n (suc z) 0) n s.work; made = s.made; written = s.written }) s

  -- the first k layers
  unfoldable pub count_steps : ℕ → Held → Held
  count_steps k s = times k (λ z t. end_step z (cells_of_layer (count_step numbering n g) n z (n - 1) t)) s
