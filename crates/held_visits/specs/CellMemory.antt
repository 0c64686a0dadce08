-- One cell of the crate numbering as the code walks it. A private model, which the contracts of the walk's functions cite: what `get` finds outside
-- the cell is loaded once, and then stands in `current` beside the cell's own numbers.
use Rattle.std.specs.Prelude.{List, ℕ, length, get_or, replicate, Float}
use Rattle.walk.specs.Walk.{times}
use Rattle.walk.specs.Numbering.{Numbering, one_more}
use Rattle.walk_models.specs.Lent.{Lent, lent_hooks}
use Rattle.walk_models.specs.Owned.{edge_visit}
use Rattle.walk_models.specs.CacheMemory.{CacheMemory, put_memory}
use Rattle.lent_mesh.specs.Stored.{store_at}

-- the cache between two cells
abbrev pub at_border : List ℕ → ℕ → ℕ → CacheMemory
at_border work layer row = record { work = work; layer = layer; row = row; current = replicate 12 0 }

-- the cache inside a cell
abbrev pub in_cell : List ℕ → ℕ → ℕ → List ℕ → CacheMemory
in_cell work layer row current = record { work = work; layer = layer; row = row; current = current }

-- what is in hand inside a cell: more vertices may have been made there than indices are written
abbrev pub hand : CacheMemory → List Float → List ℕ → ℕ → ℕ → Lent CacheMemory (List Float)
hand memory vertices indices made written =
    record { memory = memory; vertices = vertices; indices = indices; made = made; written = written }

-- a number is looked for in `current` alone
unfoldable pub held_memory : ℕ → Numbering CacheMemory
held_memory n =
    record {
      look = λ v f. one_more (get_or f.current v.edge 0);
      note = λ v i f. put_memory n v.x v.y v.edge i f;
      cell_end = λ f. f;
      row_end = λ f. f;
      layer_end = λ f. f;
    }

-- over lent lists, for a grid of size n and the cell (x, y, z)
module _ (n : ℕ) (samples : List Float) (x y z : ℕ) where
  -- the edge e gets the number i and its vertex
  unfoldable pub number_edge : ℕ → ℕ → Lent CacheMemory (List Float) → Lent CacheMemory (List Float)
  number_edge e i s =
      record {
        memory = put_memory n x y e i s.memory;
        vertices = store_at n samples (edge_visit x y z e) i s.vertices;
        indices = s.indices;
        made = s.made;
        written = s.written;
      }

  -- the visit of the edge e, and of some edges one after the other
  unfoldable pub held_visit : ℕ → Lent CacheMemory (List Float) → Lent CacheMemory (List Float)
  held_visit e s = (lent_hooks (held_memory n) (store_at n samples)).visit (edge_visit x y z e) s

  unfoldable pub held_edges : List ℕ → Lent CacheMemory (List Float) → Lent CacheMemory (List Float)
  held_edges es s = times (length es) (λ j t. held_visit (get_or es j 0) t) s
