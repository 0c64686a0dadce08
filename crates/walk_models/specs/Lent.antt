-- A numbering that writes into lent buffers, visit by visit: each new vertex is stored at its number, each index at the next place. A store past the
-- end of a buffer changes nothing, so the same walk over no room counts.
use Rattle.std.specs.Prelude.{List, [], ◌∷◌, ℕ, zero, suc, ◌+◌, set}
use Rattle.walk.specs.Walk.{Visit, Hooks}
use Rattle.walk.specs.Numbering.{Numbering}

-- `made` and `written` count the vertices and the indices so far
pub record Lent (D B : Type 0) : Type 0 where
  pub memory : D
  pub vertices : B
  pub indices : List ℕ
  pub made : ℕ
  pub written : ℕ

-- nothing written yet
abbrev pub untouched : {D B : Type 0} → D → B → List ℕ → Lent D B
untouched d b l = record { memory = d; vertices = b; indices = l; made = 0; written = 0 }

-- `store v i` stores the vertex of the visit v as number i
module _ {D B : Type 0} (d : Numbering D) (store : Visit → ℕ → B → B) where
  unfoldable pub choose_lent : ℕ → Visit → Lent D B → Lent D B
  choose_lent zero v w =
      record {
        memory = d.note v w.made w.memory;
        vertices = store v w.made w.vertices;
        indices = set w.indices w.written w.made;
        made = w.made + 1;
        written = w.written + 1;
      }
  choose_lent (suc i) v w =
      record { memory = w.memory; vertices = w.vertices; indices = set w.indices w.written i; made = w.made; written = w.written + 1 }

  unfoldable pub lent_hooks : Hooks (Lent D B)
  lent_hooks =
      record {
        visit = λ v w. choose_lent (d.look v w.memory) v w;
        cell_end = λ w. record { memory = d.cell_end w.memory; vertices = w.vertices; indices = w.indices; made = w.made; written = w.written };
        row_end = λ w. record { memory = d.row_end w.memory; vertices = w.vertices; indices = w.indices; made = w.made; written = w.written };
        layer_end = λ z w. record { memory = d.layer_end w.memory; vertices = w.vertices; indices = w.indices; made = w.made; written = w.written };
      }

-- the vertices of a list of visits, stored from number i on
unfoldable pub store_all : {B : Type 0} → (Visit → ℕ → B → B) → ℕ → List Visit → B → B
store_all store i [] b = b
store_all store i (v ∷ vs) b = store_all store (suc i) vs (store v i b)
