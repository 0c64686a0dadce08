-- The layers of a walk that counts are those of the count.
use mathlib.Core.Path.{◌≡◌, refl, ap, ◌∙◌, fun_ext}
use mathlib.Core.Bool.{false}
use mathlib.Core.List.{List}
use Prim.Native.Nat.{ℕ, zero, suc, ◌-◌, ◌<◌}
use native.Mathlib.Omega.{arith}
use lib.Dec.{eqb}
use lib.Ieee.{Float}
use borrow.Author.Tests.{ne_eqb}
use Rattle.walk.specs.Walk.{Inside, times}
use Rattle.walk_models.specs.Owned.{cells_of_layer}
use Rattle.lent_mesh.specs.Grid.{inside_of}
use Rattle.row_walk.specs.Steps.{Hand, row_parity}
use Rattle.held_bits.specs.HeldCell.{Held, clear_held}
use Rattle.grid_walk.specs.Steps.{with_memory, layers_done}
use Rattle.row_count.specs.Steps.{count_step, held_in, counting}
use Rattle.row_count.proofs.JoinedLayer.{layer-beside}
use Rattle.grid_count.specs.Steps.{end_step, count_steps}

times-held : (walked : ℕ → Hand → Hand) (counted : ℕ → Held → Held) → ((z : ℕ) (t : Hand) → held_in (walked z t) ≡ counted z (held_in t))
    → (k : ℕ) (s : Hand) → held_in (times k walked s) ≡ times k counted (held_in s)
unfolding times
times-held walked counted e zero s = refl
times-held walked counted e (suc k) s = e k (times k walked s) ∙ ap (counted k) (times-held walked counted e k s)

-- nothing before the first
pub none-before : (step : ℕ → List Float → ℕ → ℕ → ℕ → Hand → Hand) (ended : ℕ → ℕ → List ℕ → List ℕ) (n : ℕ) (samples : List Float) (s : Hand)
    → layers_done step ended n samples 0 s ≡ s
unfolding layers_done times
none-before step ended n samples s = refl

-- every word but 0 is the joined numbering
module _ (numbering n : ℕ) (g : Inside) (some : 0 < numbering) where
  joined-word : eqb numbering 0 ≡ false
  joined-word = ne_eqb numbering 0 (λ q. omega (arith, q, some))

  joined-cell : (z y x : ℕ) (s : Held) → count_step 1 n g z y x s ≡ count_step numbering n g z y x s
  unfolding count_step
  joined-cell z y x s = rw joined-word refl

  joined-layer : (z : ℕ) (t : Held)
      → cells_of_layer (count_step 1 n g) n z (n - 1) t ≡ end_step numbering n g z (cells_of_layer (count_step numbering n g) n z (n - 1) t)
  unfolding end_step
  joined-layer z t =
      let cells : count_step 1 n g ≡ count_step numbering n g = fun_ext (λ z'. fun_ext (λ y. fun_ext (λ x. fun_ext (λ s. joined-cell z' y x s)))) in
      rw joined-word (ap (λ (step : ℕ → ℕ → ℕ → Held → Held). cells_of_layer step n z (n - 1) t) cells)

  pub joined-words : (k : ℕ) (s : Held) → times k (λ z t. cells_of_layer (count_step 1 n g) n z (n - 1) t) s ≡ count_steps numbering n g k s
  unfolding count_steps
  joined-words k s =
      let layers : (λ (z : ℕ) (t : Held). cells_of_layer (count_step 1 n g) n z (n - 1) t)
      ≡ (λ (z : ℕ) (t : Held). end_step numbering n g z (cells_of_layer (count_step numbering n g) n z (n - 1) t)) =
      fun_ext (λ z. fun_ext (λ t. joined-layer z t)) in
      ap (λ (step : ℕ → Held → Held). times k step s) layers

module _ (n : ℕ) (samples : List Float) where
  pub crate-layers : (k : ℕ) (s : Hand)
      → held_in (layers_done (counting 0) (λ n z w. clear_held n (row_parity n (suc z) 0) n w) n samples k s) ≡ count_steps 0 n (inside_of n samples) k (held_in s)
  unfolding layers_done count_steps end_step
  crate-layers k s =
      times-held _ _ (λ z t. ap (λ (u : Hand). held_in (with_memory (λ w. clear_held n (row_parity n (suc z) 0) n w) u)) (layer-beside n samples z 0 t)) k s

  pub joined-layers : (numbering : ℕ) → 0 < numbering → (k : ℕ) (s : Hand)
      → held_in (layers_done (counting 1) (λ n z w. w) n samples k s) ≡ count_steps numbering n (inside_of n samples) k (held_in s)
  unfolding layers_done
  joined-layers numbering some k s =
      times-held _ _ (λ z t. ap (λ (u : Hand). held_in u) (layer-beside n samples z 1 t)) k s ∙ joined-words numbering n (inside_of n samples) some k (held_in s)

  -- what a walk that counts comes to, whose last layer is the grid's
  pub crate-whole : (last : ℕ) (end s : Hand) → end ≡ layers_done (counting 0) (λ n z w. clear_held n (row_parity n (suc z) 0) n w) n samples last s → last ≡ n
      → held_in end ≡ count_steps 0 n (inside_of n samples) n (held_in s)
  crate-whole last end s e all =
      ap held_in e ∙ crate-layers last s ∙ ap (λ (k : ℕ). count_steps 0 n (inside_of n samples) k (held_in s)) all

  pub joined-whole : (numbering : ℕ) → 0 < numbering → (last : ℕ) (end s : Hand) → end ≡ layers_done (counting 1) (λ n z w. w) n samples last s → last ≡ n
      → held_in end ≡ count_steps numbering n (inside_of n samples) n (held_in s)
  joined-whole numbering some last end s e all =
      ap held_in e ∙ joined-layers numbering some last s ∙ ap (λ (k : ℕ). count_steps numbering n (inside_of n samples) k (held_in s)) all
