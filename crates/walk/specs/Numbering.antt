-- The mesh of a grid in either numbering: document 01, "The two numberings". A numbering says what it remembers of the visits, and what number
-- an edge has; the rest is the same for both. V is the length of `made` and I the length of `indices`.
use Rattle.std.specs.Prelude.{cond, List, [], ◌∷◌, ◌++◌, map, ℕ, zero, suc, length}
use Rattle.walk.specs.Walk.{Visit, Hooks, Inside, walk}
use Rattle.walk.specs.Edges.{Edge, edge_of, same}
use Rattle.walk.specs.Cache.{Cache, put, get, advance_cell, advance_row, advance_layer}

-- C is what is remembered; `look` answers one more than the number of the visit's vertex, or 0 where there is none; `note` is told the new number
pub record Numbering (C : Type 0) : Type 0 where
  pub look : Visit → C → ℕ
  pub note : Visit → ℕ → C → C
  pub cell_end : C → C
  pub row_end : C → C
  pub layer_end : C → C

-- `made` are the visits that made the vertices, by number
pub record Mesh (C : Type 0) : Type 0 where
  pub memory : C
  pub made : List Visit
  pub indices : List ℕ

-- nothing made yet
abbrev pub empty : {C : Type 0} → C → Mesh C
empty c = record { memory = c; made = []; indices = [] }

module _ {C : Type 0} (m : Numbering C) where
  -- by what `look` answered: the next vertex is made, or an old one is named
  unfoldable pub choose : ℕ → Visit → Mesh C → Mesh C
  choose zero v s =
      record { memory = m.note v (length s.made) s.memory; made = s.made ++ (v ∷ []); indices = s.indices ++ (length s.made ∷ []) }
  choose (suc i) v s = record { memory = s.memory; made = s.made; indices = s.indices ++ (i ∷ []) }

  unfoldable pub hooks : Hooks (Mesh C)
  hooks =
      record {
        visit = λ v s. choose (m.look v s.memory) v s;
        cell_end = λ s. record { memory = m.cell_end s.memory; made = s.made; indices = s.indices };
        row_end = λ s. record { memory = m.row_end s.memory; made = s.made; indices = s.indices };
        layer_end = λ z s. record { memory = m.layer_end s.memory; made = s.made; indices = s.indices };
      }

  -- from the memory c, over a grid of size n with so many layers of cells
  unfoldable pub mesh : C → Inside → ℕ → ℕ → Mesh C
  mesh c g n layers = walk hooks g n layers (empty c)

-- the vertices, where a visit makes the vertex `position v`
abbrev pub vertices : {C P : Type 0} → (Visit → P) → Mesh C → List P
vertices position s = map position s.made

-- one more, but absent stays absent
abbrev pub one_more : ℕ → ℕ
one_more zero = zero
one_more (suc i) = suc (suc i)

-- ---- joined: the grid edges met so far, in the order of their first visits

-- one more than the first place of the edge k, or 0
unfoldable pub number : Edge → List Edge → ℕ
number k [] = 0
number k (m ∷ ms) = cond (same k m) 1 (one_more (number k ms))

unfoldable pub joined : Numbering (List Edge)
joined =
    record {
      look = λ v c. number (edge_of v) c;
      note = λ v i c. c ++ (edge_of v ∷ []);
      cell_end = λ c. c;
      row_end = λ c. c;
      layer_end = λ c. c;
    }

-- ---- crate: the index cache; number 0 reads as absent

unfoldable pub crate : ℕ → Numbering Cache
crate n =
    record {
      look = λ v c. one_more (get n v.x v.y v.edge c);
      note = λ v i c. put n v.x v.y v.edge i c;
      cell_end = advance_cell;
      row_end = advance_row;
      layer_end = advance_layer;
    }
