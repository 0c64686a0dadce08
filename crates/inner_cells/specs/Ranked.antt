-- Edges that are made with numbers of their own, in whatever order. A private model, as OneCell.antt of joined_slots.
use Rattle.std.specs.Prelude.{List, ℕ, ◌+◌, ◌/◌, ◌%◌, set}
use Rattle.walk.specs.Walk.{Visit}
use Rattle.walk.specs.Edges.{edge_of}
use Rattle.walk_models.specs.Lent.{Lent}
use Rattle.walk_models.specs.Owned.{edge_visit, slot}

-- The edge p % 16 is made with the number that is p / 16 after `made`. None is counted, so the order does not matter.
unfoldable pub make_ranked : {B : Type 0} → (Visit → ℕ → B → B) → ℕ → ℕ → ℕ → ℕ → ℕ → Lent (List ℕ) B → Lent (List ℕ) B
make_ranked store n z y x p w =
    record {
      memory = set w.memory (slot n (edge_of (edge_visit x y z (p % 16)))) (w.made + p / 16);
      vertices = store (edge_visit x y z (p % 16)) (w.made + p / 16) w.vertices;
      indices = w.indices;
      made = w.made;
      written = w.written;
    }

-- what a cell has in hand, its two counts apart
abbrev pub hand : {B : Type 0} → List ℕ → B → List ℕ → ℕ → ℕ → Lent (List ℕ) B
hand work b l made written = record { memory = work; vertices = b; indices = l; made = made; written = written }
