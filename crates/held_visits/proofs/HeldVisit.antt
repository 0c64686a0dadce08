-- One visit by what `current` has for its edge: a number, which is written as an index, or nothing, and the next vertex is made. For `make_edge` and `visit`.
use mathlib.Core.Path.{◌≡◌, refl, sym, ap, ◌∙◌}
use mathlib.Core.List.{List}
use Prim.Native.Nat.{ℕ, zero, suc, ◌+◌, ◌-◌, ◌≤◌, ◌<◌}
use native.Mathlib.Omega.{arith}
use lib.ListN.{get_or, set}
use lib.Ieee.{Float}
use Rattle.walk.specs.Numbering.{one_more}
use Rattle.walk_models.specs.Lent.{Lent, choose_lent, lent_hooks}
use Rattle.walk_models.specs.Owned.{edge_visit}
use Rattle.walk_models.specs.CacheMemory.{CacheMemory, put_layer, put_row, put_memory}
use Rattle.lent_mesh.specs.declared.Counts.{Counts}
use Rattle.lent_mesh.specs.Grid.{position_at}
use Rattle.lent_mesh.specs.Stored.{put_point, store_at, in_hand}
use Rattle.held_visits.specs.CellMemory.{in_cell, hand, number_edge, held_memory, held_visit}

module _ (n : ℕ) (samples : List Float) (x y z e l r : ℕ) (work current : List ℕ) (vertices : List Float) where
  -- what `make_edge` leaves, whatever indices and counts there are
  abbrev pub Numbered : ℕ → List ℕ → List ℕ → List Float → Type 0
  Numbered i u held vs =
      (is : List ℕ) (made written : ℕ) → hand (in_cell u l r held) vs is made written ≡ number_edge n samples x y z e i (hand (in_cell work l r current) vertices is made written)

  pub edge-numbered : (i : ℕ) (u : List ℕ) (vs : List Float)
      → u ≡ put_row n (1 - r) x e i (put_layer n (1 - l) x y e i work)
      → vs ≡ put_point vertices i (position_at n samples (edge_visit x y z e))
      → Numbered i u (set current e i) vs
  unfolding number_edge put_memory
  edge-numbered i u vs a b is made written = rw (a, b)

module _ (n : ℕ) (samples : List Float) (x y z e l r : ℕ) (work current : List ℕ) (vertices : List Float) (indices : List ℕ) (counts : Counts) where
  abbrev before : Lent CacheMemory (List Float)
  before = in_hand (in_cell work l r current) vertices indices counts

  abbrev choose : ℕ → Lent CacheMemory (List Float)
  choose number = choose_lent (held_memory n) (store_at n samples) (one_more number) (edge_visit x y z e) before

  chosen : (number : ℕ) → get_or current e 0 ≡ number → choose number ≡ held_visit n samples x y z e before
  unfolding held_visit lent_hooks held_memory
  chosen number h = sym (ap choose h)

  choose-named : (number : ℕ) → 0 < number
      → hand (in_cell work l r current) vertices (set indices counts.written number) counts.made (counts.written + 1)
      ≡ choose number
  unfolding choose_lent
  choose-named zero h = absurd (omega arith)
  choose-named (suc i) h = refl

  pub visit-named : (number : ℕ) (is : List ℕ)
      → get_or current e 0 ≡ number
      → 0 < number
      → is ≡ set indices counts.written number
      → hand (in_cell work l r current) vertices is counts.made (counts.written + 1) ≡ held_visit n samples x y z e before
  visit-named number is p q h = rw h (choose-named number q ∙ chosen number p)

  pub visit-made : (number : ℕ) (u held : List ℕ) (vs : List Float) (is : List ℕ)
      → get_or current e 0 ≡ number
      → number ≤ 0
      → Numbered n samples x y z e l r work current vertices counts.made u held vs
      → is ≡ set indices counts.written counts.made
      → hand (in_cell u l r held) vs is (counts.made + 1) (counts.written + 1) ≡ held_visit n samples x y z e before
  unfolding choose_lent held_memory number_edge
  visit-made number u held vs is p q a d =
      let none : get_or current e 0 ≡ 0 = omega arith in
      rw d
      (ap (λ (s : Lent CacheMemory (List Float)).
      record { memory = s.memory; vertices = s.vertices; indices = set indices counts.written counts.made; made = counts.made + 1; written = counts.written + 1 })
      (a indices counts.made counts.written)
      ∙ chosen 0 none)
