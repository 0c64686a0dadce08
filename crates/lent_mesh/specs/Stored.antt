-- How a walk stores a vertex into a lent list of floats, and what its code may rely on. A private model, which the contracts of the walk's functions
-- cite; the public contracts do not, and nobody need believe it.
use Rattle.std.specs.Prelude.{cond, List, ℕ, ◌+◌, ◌*◌, ltb, length, set, Float}
use Rattle.marching_cubes_impl.specs.declared.vertex.Vertex.{Vertex}
use Rattle.walk.specs.Walk.{Visit}
use Rattle.walk_models.specs.Lent.{Lent}
use Rattle.lent_mesh.specs.declared.Counts.{Counts}
use Rattle.lent_mesh.specs.Grid.{position_at}
pub use Rattle.lent_mesh.specs.Cell.{CellOf, Coordinates}

-- the three floats of vertex k, where there is room for all three
unfoldable pub put_point : List Float → ℕ → Vertex → List Float
put_point floats k p =
    cond (ltb (3 * k + 2) (length floats)) (set (set (set floats (3 * k) p.x) (3 * k + 1) p.y) (3 * k + 2) p.z) floats

-- the vertex of a visit, as number k
abbrev pub store_at : ℕ → List Float → Visit → ℕ → List Float → List Float
store_at n samples v k floats = put_point floats k (position_at n samples v)

-- what a run has in hand: a numbering's memory, the lent lists, and how far it has come
abbrev pub in_hand : {D : Type 0} → D → List Float → List ℕ → Counts → Lent D (List Float)
in_hand memory vertices indices counts =
    record { memory = memory; vertices = vertices; indices = indices; made = counts.made; written = counts.written }
