-- What the walk's code does to the lent lists in one cell. A private model, which the contracts of the walk's functions cite; the crate `passes` proves
-- that it comes to the defined mesh, and nobody need believe it.
use Rattle.std.specs.Prelude.{cond, ◌≡◌, List, [], ℕ, ◌+◌, ◌-◌, ◌*◌, ◌%◌, ◌≤◌, eqb, replicate, Float}
use Rattle.walk.specs.Walk.{cell, cell_edges}
use Rattle.walk_models.specs.Lent.{Lent, lent_hooks}
use Rattle.walk_models.specs.Owned.{owned_cell, cells_of_layer}
use Rattle.walk_models.specs.CacheMemory.{CacheMemory, crate_memory}
use Rattle.lent_mesh.specs.declared.Counts.{Counts}
use Rattle.lent_mesh.specs.Grid.{inside_of}
use Rattle.lent_mesh.specs.Stored.{store_at, in_hand}

abbrev pub Hand : Type 0
Hand = Lent (List ℕ) (List Float)

-- the cache between two cells, from the working memory and the two parities; and the working memory out of it
abbrev pub border : ℕ → ℕ → Hand → Lent CacheMemory (List Float)
border layer row s =
    record { memory = record { work = s.memory; layer = layer; row = row; current = replicate 12 0 }; vertices = s.vertices; indices = s.indices; made = s.made; written = s.written }

abbrev pub unborder : Lent CacheMemory (List Float) → Hand
unborder t = record { memory = t.memory.work; vertices = t.vertices; indices = t.indices; made = t.made; written = t.written }

-- which of the two layers, and of the two rows, is `[0]`: rows swap n - 1 times a layer
abbrev pub layer_parity : ℕ → ℕ
layer_parity z = z % 2

abbrev pub row_parity : ℕ → ℕ → ℕ → ℕ
row_parity n z y = (z * (n - 1) + y) % 2

module _ (numbering n : ℕ) (samples : List Float) where
  unfoldable pub cell_step : ℕ → ℕ → ℕ → Hand → Hand
  cell_step z y x s =
      cond (eqb numbering 0)
      (unborder (cell (lent_hooks (crate_memory n) (store_at n samples)) (inside_of n samples) n z y x (border (layer_parity z) (row_parity n z y) s)))
      (owned_cell (store_at n samples) n (inside_of n samples) z y x s)

-- ---- what the walk asks of a step, whichever it is

-- a cell with all corners alike is passed over
abbrev pub PassesOver : (ℕ → List Float → ℕ → ℕ → ℕ → Hand → Hand) → Type 0
PassesOver step =
    (n : ℕ) (samples : List Float) (z y x : ℕ) (s : Hand) → cell_edges (inside_of n samples) x y z ≡ [] → step n samples z y x s ≡ s

-- all cells of layer z change the counts alone, and come to `r`
abbrev pub WholeLayer : (ℕ → List Float → ℕ → ℕ → ℕ → Hand → Hand) → ℕ → List Float → ℕ → Counts → Counts → Type 0
WholeLayer step n samples z counts r =
    ((work : List ℕ) (vertices : List Float) (indices : List ℕ) → in_hand work vertices indices r
    ≡ cells_of_layer (step n samples) n z (n - 1) (in_hand work vertices indices counts))
    × (r.written ≤ counts.written + 243840)
