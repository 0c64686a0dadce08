-- A cell that visits nothing changes nothing, in either rendering: so a loop may pass over such cells.
use mathlib.Core.Path.{◌≡◌, sym, ap, ◌∙◌}
use mathlib.Core.List.{List, []}
use Prim.Native.Nat.{ℕ}
use lib.Dec.{eqb}
use lib.ListN.{length, get_or, replicate}
use Rattle.walk.specs.Walk.{Visit, Inside, visit_of, cell_edges, times, cell}
use Rattle.walk.specs.Ownership.{owned, new_edges}
use Rattle.walk_models.specs.Lent.{Lent, lent_hooks}
use Rattle.walk_models.specs.Owned.{cell_new, make_edge, name_edge, owned_cell}
use Rattle.walk_models.specs.CacheMemory.{CacheMemory, crate_memory}

module _ {B : Type 0} (store : Visit → ℕ → B → B) (n : ℕ) (g : Inside) (z y x : ℕ) (none : cell_edges g x y z ≡ []) where
  pub owned_cell-idle : (w : Lent (List ℕ) B) → owned_cell store n g z y x w ≡ w
  unfolding owned_cell cell_new times new_edges
  owned_cell-idle w =
      ap (λ (r : List ℕ).
      times (length r) (λ j t. name_edge store n z y x (get_or r j 0) t)
      (times (length (new_edges (owned (eqb x 0) (eqb y 0) (eqb z 0)) r)) (λ j t. make_edge store n z y x (get_or (new_edges (owned (eqb x 0) (eqb y 0) (eqb z 0)) r) j 0) t) w)) none

  -- between cells `current` is zero
  pub crate_cell-idle : (w : Lent CacheMemory B) → w.memory.current ≡ replicate 12 0
      → cell (lent_hooks (crate_memory n) store) g n z y x w ≡ w
  unfolding cell times lent_hooks crate_memory
  crate_cell-idle w zeros =
      ap (λ (k : ℕ). (lent_hooks (crate_memory n) store).cell_end (times k (λ j t. (lent_hooks (crate_memory n) store).visit (visit_of g x y z j) t) w)) (ap length none)
      ∙ ap (λ (l : List ℕ).
      record {
        memory = record { work = w.memory.work; layer = w.memory.layer; row = w.memory.row; current = l };
        vertices = w.vertices;
        indices = w.indices;
        made = w.made;
        written = w.written;
      }) (sym zeros)
