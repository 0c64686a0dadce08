-- `put_vertex`: room for three floats, or nothing is done.
use mathlib.Core.Path.{◌≡◌, sym, ap, ◌∙◌}
use mathlib.Core.List.{List}
use Prim.Native.Nat.{ℕ, ◌+◌, ◌*◌, ◌<◌}
use lib.ListN.{length, set}
use lib.Ieee.{Float}
use Rattle.marching_cubes_impl.specs.declared.vertex.Vertex.{Vertex}
use Rattle.lent_mesh.specs.Stored.{put_point}
use Rattle.lent_mesh.proofs.Points.{put_point-room, put_point-full}
use Rattle.lent_mesh.proofs.cell.Cell.put_vertex.Goals as goal

-- over plain variables: among the records of the walk the two equations are dear to join
stored-point : (floats stored : List Float) (k : ℕ) (p q : Vertex) → 3 * k + 2 < length floats → p ≡ q
    → stored ≡ set (set (set floats (3 * k) p.x) (3 * k + 1) p.y) (3 * k + 2) p.z → stored ≡ put_point floats k q
stored-point floats stored k p q room e put = put ∙ sym (put_point-room floats k p room) ∙ ap (put_point floats k) e

pub returns-then-at-vertices : goal.returns-then-at-vertices
returns-then-at-vertices c =
    let args = c.args in
    stored-point args.vertices.now _ args.number c.vertex_on.result _ c.if-at-vertices.true c.vertex_on.ensures c.store.ensures

pub returns-else-at-vertices : goal.returns-else-at-vertices
returns-else-at-vertices c = sym (put_point-full _ _ _ c.if-at-vertices.false)
