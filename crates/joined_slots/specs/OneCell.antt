-- One cell of the joined walk as the code takes it: where its edges have their numbers, and the class by which it is looked up. A private model,
-- which the contracts of the walk's functions cite; the public contracts do not, and nobody need believe it.
use Rattle.std.specs.Prelude.{◌≡◌, List, ℕ, ◌+◌, ◌*◌, ◌<◌, eqb, length, get_or}
use Rattle.walk.specs.Walk.{bit, times}
use Rattle.walk.specs.Edges.{edge_of}
use Rattle.walk_models.specs.Owned.{Count, edge_visit, slot}
use Rattle.lent_mesh.specs.declared.Counts.{Counts}

-- a step for each entry of the list, from the first
unfoldable pub each : {S : Type 0} → (ℕ → S → S) → List ℕ → S → S
each step es s = times (length es) (λ j t. step (get_or es j 0) t) s

-- the slots of the edges of the cell (x, y, z), from the place `at` on
abbrev pub SlotsFrom : ℕ → List ℕ → ℕ → ℕ → ℕ → ℕ → Type 0
SlotsFrom at l n x y z = (e : ℕ) → e < 12 → at + get_or l e 0 ≡ slot n (edge_of (edge_visit x y z e))

-- the same list serves each cell of the layer z
unfoldable pub Slots : ℕ → ℕ → List ℕ → Type 0
Slots n z l = (x y : ℕ) → SlotsFrom (8 * (y * n + x)) l n x y z

-- by its bits, whether x, y and z are 0
abbrev pub class_of : ℕ → ℕ → ℕ → ℕ
class_of x y z = bit (eqb x 0) + 2 * bit (eqb y 0) + 4 * bit (eqb z 0)

abbrev pub count_of : Counts → Count
count_of counts = record { made = counts.made; written = counts.written }
