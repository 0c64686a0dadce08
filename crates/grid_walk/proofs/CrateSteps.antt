-- The walk over the index cache in lent memory, with the two parities worked out from the place instead of carried along: `walk_steps` of the crate numbering
-- and the walk of `lent_hooks (crate_memory n)` go side by side.
use mathlib.Core.Path.{◌≡◌, refl, sym, ap, ◌∙◌}
use mathlib.Core.List.{List}
use Prim.Native.Nat.{ℕ, zero, suc, ◌+◌, ◌-◌, ◌*◌, ◌%◌}
use native.Mathlib.Omega.{arith}
use native.Mathlib.Nat.{suc-mul, add-suc}
use lib.ListN.{length}
use lib.Ieee.{Float}
use Rattle.walk.specs.Walk.{Visit, Hooks, visit_of, cell_edges, times, cell, cells, rows, walk}
use Rattle.walk.proofs.WalkInduction.{times-kept}
use Rattle.walk_models.specs.Lent.{Lent, choose_lent, lent_hooks}
use Rattle.walk_models.specs.Owned.{cells_of_row, cells_of_layer}
use Rattle.walk_models.specs.CacheMemory.{CacheMemory, put_memory, crate_memory}
use Rattle.lent_mesh.specs.Grid.{inside_of}
use Rattle.lent_mesh.specs.Stored.{store_at}
use Rattle.row_walk.specs.Steps.{Hand, border, unborder, layer_parity, row_parity, cell_step}
use Rattle.grid_walk.specs.Steps.{layer_step, walk_steps}

-- ---- a cell keeps the parities and leaves `current` zero

pub record Parities (layer row : ℕ) (t : Lent CacheMemory (List Float)) : Type 0 where
  pub layer-is : t.memory.layer ≡ layer
  pub row_is : t.memory.row ≡ row

module _ (n : ℕ) (samples : List Float) where
  abbrev h : Hooks (Lent CacheMemory (List Float))
  h = lent_hooks (crate_memory n) (store_at n samples)

  choose-parities : (layer row q : ℕ) (v : Visit) (t : Lent CacheMemory (List Float)) → Parities layer row t
      → Parities layer row (choose_lent (crate_memory n) (store_at n samples) q v t)
  unfolding choose_lent crate_memory put_memory
  choose-parities layer row zero v t p = record { layer-is = p.layer-is; row_is = p.row_is }
  choose-parities layer row (suc i) v t p = record { layer-is = p.layer-is; row_is = p.row_is }

  visits-parities : (layer row z y x k : ℕ) (t : Lent CacheMemory (List Float)) → Parities layer row t
      → Parities layer row (times k (λ j a. h.visit (visit_of (inside_of n samples) x y z j) a) t)
  unfolding lent_hooks times
  visits-parities layer row z y x zero t p = p
  visits-parities layer row z y x (suc k) t p = choose-parities layer row _ _ _ (visits-parities layer row z y x k t p)

  -- between cells nothing but the working memory and the parities is in the cache
  pub border-unborder : (layer row z y x : ℕ) (s : Hand)
      → border layer row (unborder (cell h (inside_of n samples) n z y x (border layer row s))) ≡ cell h (inside_of n samples) n z y x (border layer row s)
  unfolding cell lent_hooks crate_memory
  border-unborder layer row z y x s =
      let k : ℕ = length (cell_edges (inside_of n samples) x y z) in
      let t = times k (λ j a. h.visit (visit_of (inside_of n samples) x y z j) a) (border layer row s) in
      let p : Parities layer row t = visits-parities layer row z y x k (border layer row s) (record { layer-is = refl; row_is = refl }) in
      rw (p.layer-is, p.row_is)

  -- ---- side by side

  abbrev Beside : ℕ → ℕ → Lent CacheMemory (List Float) → Hand → Type 0
  Beside z y w s = w ≡ border (layer_parity z) (row_parity n z y) s

  cells-beside : (z y k : ℕ) (w : Lent CacheMemory (List Float)) (s : Hand) → Beside z y w s
      → Beside z y (cells h (inside_of n samples) n z y k w) (cells_of_row (cell_step 0 n samples) n z y k s)
  unfolding cells cells_of_row cell_step
  cells-beside z y k w s r =
      times-kept (λ x. Beside z y) _ _ k
      (λ x a b l e. ap (cell h (inside_of n samples) n z y x) e ∙ sym (border-unborder (layer_parity z) (row_parity n z y) z y x b)) w s r

  turned : (k : ℕ) → 1 - k % 2 ≡ suc k % 2
  turned k = omega arith

  row-beside : (z y : ℕ) (w : Lent CacheMemory (List Float)) (s : Hand) → Beside z y w s → Beside z (suc y) (h.row_end w) s
  unfolding lent_hooks crate_memory
  row-beside z y w s e =
      let next : 1 - (z * (n - 1) + y) % 2 ≡ (z * (n - 1) + suc y) % 2 = turned (z * (n - 1) + y) ∙ ap (λ (k : ℕ). k % 2) (sym (add-suc (z * (n - 1)) y)) in
      ap h.row_end e ∙ rw next

  layer-beside : (z : ℕ) (w : Lent CacheMemory (List Float)) (s : Hand) → Beside z (n - 1) w s → Beside (suc z) 0 (h.layer_end z w) (layer_step 0 n samples z s)
  unfolding lent_hooks crate_memory layer_step
  layer-beside z w s e =
      let rows-done : (z * (n - 1) + (n - 1)) % 2 ≡ row_parity n (suc z) 0 = ap (λ (k : ℕ). k % 2) (omega (arith, suc-mul z (n - 1))) in
      ap (h.layer_end z) e ∙ rw (rows-done, turned z)

  rows-beside : (z k : ℕ) (w : Lent CacheMemory (List Float)) (s : Hand) → Beside z 0 w s
      → Beside z k (rows h (inside_of n samples) n z k w) (cells_of_layer (cell_step 0 n samples) n z k s)
  unfolding rows cells_of_layer
  rows-beside z k w s r =
      times-kept (λ y. Beside z y) _ _ k (λ y a b l e. row-beside z y _ _ (cells-beside z y (n - 1) a b e)) w s r

  pub walk-beside : (k : ℕ) (w : Lent CacheMemory (List Float)) (s : Hand) → Beside 0 0 w s
      → Beside k 0 (walk h (inside_of n samples) n k w) (walk_steps 0 n samples k s)
  unfolding walk walk_steps
  walk-beside k w s r =
      times-kept (λ z. Beside z 0) _ _ k (λ z a b l e. layer-beside z _ _ (rows-beside z (n - 1) a b e)) w s r
