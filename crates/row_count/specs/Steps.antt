-- What the count's code does with a cell: the crate numbering by the words of held edges, the joined numbering by the lengths of two lists. A private model;
-- `proofs/CountedMesh.antt` of grid_count proves that it comes to the defined mesh.
use Rattle.std.specs.Prelude.{cond, List, ℕ, eqb, get_or, Float}
use Rattle.walk.specs.Walk.{Inside, signs}
use Rattle.walk_models.specs.Owned.{Count, count_cell}
use Rattle.lent_mesh.specs.Grid.{inside_of}
use Rattle.row_walk.specs.Steps.{Hand, layer_parity, row_parity}
use Rattle.held_bits.specs.Names.{name_words}
use Rattle.held_bits.specs.HeldCell.{Held, held_cell}

abbrev pub count_in : Held → Count
count_in s = record { made = s.made; written = s.written }

abbrev pub with_count : Held → Count → Held
with_count s c = record { work = s.work; made = c.made; written = c.written }

module _ (numbering n : ℕ) (g : Inside) where
  unfoldable pub count_step : ℕ → ℕ → ℕ → Held → Held
  count_step z y x s =
      cond (eqb numbering 0) (held_cell n (layer_parity z) (row_parity n z y) x y (get_or name_words (signs g x y z) 0) s)
      (with_count s (count_cell g z y x (count_in s)))

-- ---- in a walk that leaves the outputs as they are

abbrev pub held_in : Hand → Held
held_in s = record { work = s.memory; made = s.made; written = s.written }

abbrev pub beside : Hand → Held → Hand
beside s h = record { memory = h.work; vertices = s.vertices; indices = s.indices; made = h.made; written = h.written }

abbrev pub counting : ℕ → ℕ → List Float → ℕ → ℕ → ℕ → Hand → Hand
counting numbering n samples z y x s = beside s (count_step numbering n (inside_of n samples) z y x (held_in s))
