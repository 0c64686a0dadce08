-- The joined numbering in lent working memory, cell by cell: no mark for an absent number and nothing cleared on the way. Eight words stand for each
-- place (x, y); an edge along x or y uses one of two of them by the parity of z, one along z a fifth. A cell makes its new edges first, in order, and
-- then reads the indices of its row.
use Rattle.std.specs.Prelude.{List, ℕ, zero, suc, ◌+◌, ◌-◌, ◌*◌, ◌%◌, eqb, length, get_or, set}
use Rattle.walk.specs.Walk.{Visit, Inside, cell_edges, times}
use Rattle.walk.specs.Edges.{Edge, edge_of}
use Rattle.walk.specs.Ownership.{owned, new_edges}
use Rattle.walk_models.specs.Lent.{Lent}

abbrev pub word_of : ℕ → ℕ → ℕ
word_of zero z = z % 2
word_of (suc zero) z = 2 + z % 2
word_of (suc (suc axis)) z = 4

unfoldable pub slot : ℕ → Edge → ℕ
slot n k = 8 * (k.y * n + k.x) + word_of k.axis k.z

abbrev pub edge_visit : ℕ → ℕ → ℕ → ℕ → Visit
edge_visit x y z e = record { x = x; y = y; z = z; edge = e }

-- the edges that the cell makes
unfoldable pub cell_new : Inside → ℕ → ℕ → ℕ → List ℕ
cell_new g x y z = new_edges (owned (eqb x 0) (eqb y 0) (eqb z 0)) (cell_edges g x y z)

module _ {B : Type 0} (store : Visit → ℕ → B → B) (n : ℕ) where
  -- the edge's number and vertex are stored
  unfoldable pub make_edge : ℕ → ℕ → ℕ → ℕ → Lent (List ℕ) B → Lent (List ℕ) B
  make_edge z y x e w =
      record {
        memory = set w.memory (slot n (edge_of (edge_visit x y z e))) w.made;
        vertices = store (edge_visit x y z e) w.made w.vertices;
        indices = w.indices;
        made = w.made + 1;
        written = w.written;
      }

  -- its number is written as an index
  unfoldable pub name_edge : ℕ → ℕ → ℕ → ℕ → Lent (List ℕ) B → Lent (List ℕ) B
  name_edge z y x e w =
      record {
        memory = w.memory;
        vertices = w.vertices;
        indices = set w.indices w.written (get_or w.memory (slot n (edge_of (edge_visit x y z e))) 0);
        made = w.made;
        written = w.written + 1;
      }

  unfoldable pub owned_cell : Inside → ℕ → ℕ → ℕ → Lent (List ℕ) B → Lent (List ℕ) B
  owned_cell g z y x w =
      times (length (cell_edges g x y z)) (λ j t. name_edge z y x (get_or (cell_edges g x y z) j 0) t)
      (times (length (cell_new g x y z)) (λ j t. make_edge z y x (get_or (cell_new g x y z) j 0) t) w)

-- ---- the walk, a step for each cell

module _ {S : Type 0} (step : ℕ → ℕ → ℕ → S → S) (n : ℕ) where
  unfoldable pub cells_of_row : ℕ → ℕ → ℕ → S → S
  cells_of_row z y k s = times k (λ x t. step z y x t) s

  unfoldable pub cells_of_layer : ℕ → ℕ → S → S
  cells_of_layer z k s = times k (λ y t. cells_of_row z y (n - 1) t) s

  unfoldable pub cells_of_grid : ℕ → S → S
  cells_of_grid k s = times k (λ z t. cells_of_layer z (n - 1) t) s

-- ---- the count, from the two lists alone

pub record Count : Type 0 where
  pub made : ℕ
  pub written : ℕ

abbrev pub count_cell : Inside → ℕ → ℕ → ℕ → Count → Count
count_cell g z y x t = record { made = t.made + length (cell_new g x y z); written = t.written + length (cell_edges g x y z) }
