-- One cell in either numbering, from what the numberings' own functions promise; and a count in a walk that leaves the outputs as they are.
use mathlib.Core.Path.{◌≡◌, refl, ap, ◌∙◌}
use mathlib.Core.List.{List}
use Prim.Native.Nat.{ℕ, zero, suc}
use lib.ListN.{get_or}
use Rattle.walk.specs.Walk.{Inside, signs, times}
use Rattle.walk_models.specs.Owned.{count_cell}
use Rattle.lent_mesh.specs.declared.Counts.{Counts}
use Rattle.row_walk.specs.Steps.{Hand, layer_parity, row_parity}
use Rattle.joined_slots.specs.OneCell.{count_of}
use Rattle.held_bits.specs.Names.{name_words}
use Rattle.held_bits.specs.HeldCell.{Held, held, held_cell}
use Rattle.row_count.specs.Steps.{with_count, count_step, held_in, beside}

module _ (n : ℕ) (g : Inside) (z y x : ℕ) where
  pub crate-step : (layer row case : ℕ) (s t : Held) → layer ≡ layer_parity z → row ≡ row_parity n z y → case ≡ signs g x y z
      → t ≡ held_cell n layer row x y (get_or name_words case 0) s → t ≡ count_step 0 n g z y x s
  unfolding count_step
  crate-step layer row case s t l r c e = e ∙ rw (l, r, c) refl

  pub joined_step : (work : List ℕ) (counts r : Counts) → count_of r ≡ count_cell g z y x (count_of counts)
      → held work r ≡ count_step 1 n g z y x (held work counts)
  unfolding count_step
  joined_step work counts r e = ap (with_count (held work counts)) e

-- steps that leave the outputs as they are
pub times-beside : (f : ℕ → Held → Held) (k : ℕ) (s : Hand) → times k (λ i t. beside t (f i (held_in t))) s ≡ beside s (times k f (held_in s))
unfolding times
times-beside f zero s = refl
times-beside f (suc k) s = ap (λ (t : Hand). beside t (f k (held_in t))) (times-beside f k s)
