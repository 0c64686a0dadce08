-- From layer to layer: the parity of the cache rows, the samples that are there, and the end of a layer.
use mathlib.Core.Path.{◌≡◌, refl, ap, ◌∙◌, fun_ext}
use mathlib.Core.Bool.{false}
use mathlib.Core.List.{List}
use Prim.Native.Nat.{ℕ, suc, ◌+◌, ◌-◌, ◌*◌, ◌%◌, ◌≤◌, ◌<◌}
use native.Mathlib.Nat.{suc-mul, mul-le-mul_right}
use native.Mathlib.Omega.{arith}
use lib.Dec.{eqb}
use lib.ListN.{length}
use borrow.Author.Tests.{ne_eqb}
use lib.Ieee.{Float}
use Rattle.walk.specs.Walk.{times}
use Rattle.walk_models.specs.Owned.{cells_of_layer}
use Rattle.walk_models.specs.CacheMemory.{clear_row}
use Rattle.lent_mesh.specs.declared.Counts.{Counts}
use Rattle.lent_mesh.specs.Stored.{in_hand}
use Rattle.sign_words.proofs.RowWords.{planes-le}
use Rattle.row_walk.specs.Steps.{Hand, row_parity, cell_step}
use Rattle.row_walk.specs.Ready.{LayerOf}
use Rattle.grid_walk.specs.declared.Span.{Span}
use Rattle.grid_walk.specs.Growth.{GrowsWithin}
use Rattle.grid_walk.specs.Steps.{with_memory, layer_done, layers_done, layer_step, walk_steps}

added : (k m : ℕ) → (k % 2 + m) % 2 ≡ (k + m) % 2
added k m = omega arith

-- rows take turns: 1 - r is the parity of the next row
pub parity-next : (k r : ℕ) → r ≡ k % 2 → 1 - r ≡ (k + 1) % 2
parity-next k r e = omega arith

-- so often have rows swapped before layer z
pub swaps-le : (n z : ℕ) → n ≤ 128 → z ≤ n → z * (n - 1) ≤ 16256
swaps-le n z most h =
    let small : z * (n - 1) ≤ 128 * (n - 1) = mul-le-mul_right (n - 1) (omega arith) in
    omega arith

-- rows swap n - 1 times a layer
pub parity-layer : (n z row : ℕ) → row ≡ row_parity n z 0 → (row + (n - 1)) % 2 ≡ row_parity n (z + 1) 0
parity-layer n z row e =
    let more : z * (n - 1) + 0 + (n - 1) ≡ (z + 1) * (n - 1) + 0 = omega (arith, suc-mul z (n - 1)) in
    ap (λ (r : ℕ). (r + (n - 1)) % 2) e ∙ added (z * (n - 1) + 0) (n - 1) ∙ ap (λ (k : ℕ). k % 2) more

pub layer-of : (samples : List Float) (n z : ℕ) → 2 ≤ n → n ≤ 128 → n * n * (n + 1) ≤ length samples → z < n → LayerOf samples n z
layer-of samples n z least most whole h =
    let up : z + 2 ≤ n + 1 = omega arith in
    record { least = least; most = most; in-z = h; planes = planes-le n (z + 2) (length samples) up whole }

-- a layer of cells, then its end
pub layer-done : (step : ℕ → List Float → ℕ → ℕ → ℕ → Hand → Hand) (ended : ℕ → ℕ → List ℕ → List ℕ) (n : ℕ) (samples : List Float) (z : ℕ)
    (work cleared : List ℕ) (vertices : List Float) (indices : List ℕ) (counts : Counts) (here : Hand)
    → in_hand work vertices indices counts ≡ cells_of_layer (step n samples) n z (n - 1) here
    → cleared ≡ ended n z work
    → in_hand cleared vertices indices counts ≡ layer_done step ended n samples z here
layer-done step ended n samples z work cleared vertices indices counts here e q =
    ap (λ (w : List ℕ). in_hand w vertices indices counts) q ∙ ap (with_memory (ended n z)) e

-- the two numberings' own layers
pub crate-layers : (n : ℕ) (samples : List Float) (k : ℕ) (s : Hand)
    → layers_done (cell_step 0) (λ n z w. clear_row n (row_parity n (suc z) 0) n w) n samples k s ≡ walk_steps 0 n samples k s
unfolding layers_done walk_steps layer_step
crate-layers n samples k s = refl

pub joined-layers : (n : ℕ) (samples : List Float) (k : ℕ) (s : Hand) → layers_done (cell_step 1) (λ n z w. w) n samples k s ≡ walk_steps 1 n samples k s
unfolding layers_done walk_steps layer_step
joined-layers n samples k s = refl

-- every word but 0 is the joined numbering
module _ (numbering n : ℕ) (samples : List Float) (some : 0 < numbering) where
  joined-word : eqb numbering 0 ≡ false
  joined-word = ne_eqb numbering 0 (λ q. omega (arith, q, some))

  joined-cell : (z y x : ℕ) (s : Hand) → cell_step 1 n samples z y x s ≡ cell_step numbering n samples z y x s
  unfolding cell_step
  joined-cell z y x s = rw joined-word refl

  joined-layer : (z : ℕ) (t : Hand)
      → layer_step 1 n samples z (cells_of_layer (cell_step 1 n samples) n z (n - 1) t)
      ≡ layer_step numbering n samples z (cells_of_layer (cell_step numbering n samples) n z (n - 1) t)
  unfolding layer_step
  joined-layer z t =
      let cells : cell_step 1 n samples ≡ cell_step numbering n samples =
      fun_ext (λ z'. fun_ext (λ y. fun_ext (λ x. fun_ext (λ s. joined-cell z' y x s)))) in
      rw joined-word (ap (λ (step : ℕ → ℕ → ℕ → Hand → Hand). cells_of_layer step n z (n - 1) t) cells)

  pub joined-words : (k : ℕ) (s : Hand) → walk_steps 1 n samples k s ≡ walk_steps numbering n samples k s
  unfolding walk_steps
  joined-words k s =
      let layers : (λ (z : ℕ) (t : Hand). layer_step 1 n samples z (cells_of_layer (cell_step 1 n samples) n z (n - 1) t))
      ≡ (λ (z : ℕ) (t : Hand). layer_step numbering n samples z (cells_of_layer (cell_step numbering n samples) n z (n - 1) t)) =
      fun_ext (λ z. fun_ext (λ t. joined-layer z t)) in
      ap (λ (step : ℕ → Hand → Hand). times k step s) layers

-- ---- the layers in which a count grows, one layer more at a time

module _ (counted : ℕ → ℕ) (z : ℕ) (span : Span) (within : GrowsWithin counted z span) where
  -- the layer adds nothing
  pub span-kept : counted z ≡ counted (z + 1) → GrowsWithin counted (z + 1) span
  span-kept same =
      let most = within.most in
      record { ordered = within.ordered; most = omega arith; none_before = within.none_before; none_after = within.none_after ∙ same }

  -- it is the first that adds something
  pub span-begun : counted z ≡ 0 → GrowsWithin counted (z + 1) (record { first = z; last = z + 1 })
  span-begun none = record { ordered = omega arith; most = omega arith; none_before = none; none_after = refl }

  -- it adds something
  pub span-longer : GrowsWithin counted (z + 1) (record { first = span.first; last = z + 1 })
  span-longer =
      let ordered = within.ordered in
      let most = within.most in
      record { ordered = omega arith; most = omega arith; none_before = within.none_before; none_after = refl }

pub span_none : (counted : ℕ → ℕ) (z : ℕ) → counted z ≡ 0 → GrowsWithin counted z (record { first = z; last = z })
span_none counted z none = record { ordered = omega arith; most = omega arith; none_before = none; none_after = refl }
