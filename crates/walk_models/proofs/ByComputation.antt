-- The renderings in lent memory on grids of document 01, by computation: W4 joined, its window full of sevens at first, W5 crate, and the grid on which
-- the crate numbering names a stale vertex.
use mathlib.Core.Path.{◌≡◌, refl}
use mathlib.Core.List.{List, [], ◌∷◌}
use Prim.Native.Nat.{ℕ, ◌+◌, ◌*◌}
use lib.ListN.{get_or, set, replicate}
use Rattle.marching_cubes_tables.specs.Tables.{corners, edge_connection, triangle_connection}
use Rattle.marching_cubes_tables.specs.Rule.{row_edges, member}
use Rattle.walk.specs.Walk.{Visit, Inside, times, signs, cell_edges, cell, cells, rows, walk}
use Rattle.walk.specs.Edges.{axis_of, low_offset, edge_of}
use Rattle.walk.specs.Cache.{put_column, get_column, in_layer}
use Rattle.walk.specs.Ownership.{owned, new_edges}
use Rattle.walk_models.specs.Lent.{Lent, untouched, choose_lent, lent_hooks}
use Rattle.walk_models.specs.Owned.{slot, cell_new, make_edge, name_edge, owned_cell, cells_of_row, cells_of_layer, cells_of_grid, count_cell}
use Rattle.walk_models.specs.CacheMemory.{CacheMemory, put_layer, put_row, put_memory, found_memory, get_memory, clear_row, crate_memory}

-- the samples at the listed places of a grid of size n are inside
abbrev pub inside-at : ℕ → List ℕ → Inside
inside-at n places x y z = member ((z * n + y) * n + x) places

-- in place of a vertex, its edge of the cell
abbrev pub keep_edge : Visit → ℕ → List ℕ → List ℕ
keep_edge v i l = set l i v.edge

-- the edges of the vertices in a buffer for six, the indices in one for eight, and how many of each
pub record Left : Type 0 where
  pub edges : List ℕ
  pub indices : List ℕ
  pub made : ℕ
  pub written : ℕ

abbrev pub left_in : {D : Type 0} → Lent D (List ℕ) → Left
left_in w = record { edges = w.vertices; indices = w.indices; made = w.made; written = w.written }

pub joined-holds : left_in (cells_of_grid (owned_cell keep_edge 2 (inside-at 2 (4 ∷ []))) 2 2 (untouched (replicate 32 7) (replicate 6 99) (replicate 8 99)))
    ≡ record { edges = 4 ∷ 7 ∷ 8 ∷ 8 ∷ 99 ∷ 99 ∷ []; indices = 0 ∷ 1 ∷ 2 ∷ 0 ∷ 3 ∷ 1 ∷ 99 ∷ 99 ∷ []; made = 4; written = 6 }
unfolding corners edge_connection triangle_connection row_edges times signs cell_edges axis_of low_offset edge_of owned new_edges slot cell_new make_edge name_edge owned_cell
    cells_of_row cells_of_layer cells_of_grid
joined-holds = refl

pub count-holds : cells_of_grid (count_cell (inside-at 2 (4 ∷ []))) 2 2 (record { made = 0; written = 0 }) ≡ record { made = 4; written = 6 }
unfolding corners edge_connection triangle_connection row_edges times signs cell_edges owned new_edges cell_new cells_of_row cells_of_layer cells_of_grid
count-holds = refl

-- a cache with nothing in it, in so many words
abbrev pub cleared : ℕ → CacheMemory
cleared k = record { work = replicate k 0; layer = 0; row = 0; current = replicate 12 0 }

pub crate-holds : left_in (walk (lent_hooks (crate_memory 2) keep_edge) (inside-at 2 (4 ∷ [])) 2 2 (untouched (cleared 44) (replicate 6 99) (replicate 8 99)))
    ≡ record { edges = 4 ∷ 7 ∷ 8 ∷ 0 ∷ 8 ∷ 99 ∷ []; indices = 0 ∷ 1 ∷ 2 ∷ 3 ∷ 4 ∷ 1 ∷ 99 ∷ 99 ∷ []; made = 5; written = 6 }
unfolding corners edge_connection triangle_connection row_edges times signs cell_edges cell cells rows walk put_column get_column in_layer choose_lent lent_hooks
    put_layer put_row put_memory found_memory get_memory clear_row crate_memory
crate-holds = refl

-- index 42 is that of vertex 14
pub stale-holds : get_or
    (walk (lent_hooks (crate_memory 4) keep_edge) (inside-at 4 (0 ∷ 1 ∷ 5 ∷ 20 ∷ 52 ∷ [])) 4 4 (untouched (cleared 152) [] (replicate 45 99))).indices 42 99
    ≡ 14
unfolding corners edge_connection triangle_connection row_edges times signs cell_edges cell cells rows walk put_column get_column in_layer choose_lent lent_hooks
    put_layer put_row put_memory found_memory get_memory clear_row crate_memory
stale-holds = refl
