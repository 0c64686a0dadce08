-- A layer of the count: the outputs stay as they are, and in the joined numbering the count alone changes, as it would by itself.
use mathlib.Core.Path.{◌≡◌, refl, sym, ◌∙◌, ap}
use mathlib.Core.List.{List}
use Prim.Native.Nat.{ℕ, zero, suc, ◌-◌}
use lib.Ieee.{Float}
use Rattle.walk.specs.Walk.{Inside, times}
use Rattle.walk_models.specs.Owned.{Count, count_cell, cells_of_row, cells_of_layer}
use Rattle.lent_mesh.specs.declared.Counts.{Counts}
use Rattle.lent_mesh.specs.Grid.{inside_of}
use Rattle.lent_mesh.specs.Stored.{in_hand}
use Rattle.row_walk.specs.Steps.{Hand}
use Rattle.joined_slots.specs.OneCell.{count_of}
use Rattle.held_bits.specs.HeldCell.{Held, held}
use Rattle.row_count.specs.Steps.{count_in, with_count, count_step, held_in, beside, counting}
use Rattle.row_count.proofs.CountCell.{times-beside}

-- equal steps
times-alike : {S : Type 0} (f h : ℕ → S → S) → ((i : ℕ) (s : S) → f i s ≡ h i s) → (k : ℕ) (s : S) → times k f s ≡ times k h s
unfolding times
times-alike f h e zero s = refl
times-alike f h e (suc k) s = e k (times k f s) ∙ ap (h k) (times-alike f h e k s)

-- steps that change the count alone
times-count : (f : ℕ → Held → Held) (h : ℕ → Count → Count) → ((i : ℕ) (s : Held) → f i s ≡ with_count s (h i (count_in s)))
    → (k : ℕ) (s : Held) → times k f s ≡ with_count s (times k h (count_in s))
unfolding times
times-count f h e zero s = refl
times-count f h e (suc k) s = e k (times k f s) ∙ ap (λ (t : Held). with_count t (h k (count_in t))) (times-count f h e k s)

module _ (n : ℕ) (samples : List Float) (z : ℕ) where
  abbrev g : Inside
  g = inside_of n samples

  counted : (work : List ℕ) (counts r : Counts)
      → count_of r ≡ cells_of_layer (count_cell g) n z (n - 1) (count_of counts)
      → held work r ≡ cells_of_layer (count_step 1 n g) n z (n - 1) (held work counts)
  unfolding count_step cells_of_row cells_of_layer
  counted work counts r e =
      ap (with_count (held work counts)) e
      ∙ sym
      (times-count _ (λ y t. cells_of_row (count_cell g) n z y (n - 1) t)
      (λ y s. times-count _ (λ x t. count_cell g z y x t) (λ x t. refl) (n - 1) s) (n - 1) (held work counts))

  pub layer-beside : (numbering : ℕ) (s : Hand)
      → cells_of_layer (counting numbering n samples) n z (n - 1) s ≡ beside s (cells_of_layer (count_step numbering n g) n z (n - 1) (held_in s))
  unfolding cells_of_row cells_of_layer
  layer-beside numbering s =
      times-alike _ _ (λ y t. times-beside (λ x h. count_step numbering n g z y x h) (n - 1) t) (n - 1) s
      ∙ times-beside (λ y h. times (n - 1) (λ x t. count_step numbering n g z y x t) h) (n - 1) s

  pub joined-layer : (work : List ℕ) (vertices : List Float) (indices : List ℕ) (counts r : Counts)
      → count_of r ≡ cells_of_layer (count_cell g) n z (n - 1) (count_of counts)
      → in_hand work vertices indices r ≡ cells_of_layer (counting 1 n samples) n z (n - 1) (in_hand work vertices indices counts)
  joined-layer work vertices indices counts r e =
      ap (beside (in_hand work vertices indices counts)) (counted work counts r e) ∙ sym (layer-beside 1 (in_hand work vertices indices counts))
