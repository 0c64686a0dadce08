-- `vertex_on`: the six constants are the tables, by `end-offset`; the rest is the definition.
use mathlib.Core.Path.{◌∙◌}
use Prim.Native.Nat.{◌<◌}
use native.Mathlib.Omega.{arith}
use Rattle.lent_mesh.proofs.EndOffsets.{end-offset}
use Rattle.lent_mesh.proofs.VertexOn.{position_at-known}
use Rattle.lent_mesh.proofs.cell.Cell.vertex_on.Goals as goal

-- the two ends and the three axes, told once and not among the records of the walk
first : 0 < 2
first = omega arith

second : 1 < 2
second = omega arith

on-x : 0 < 3
on-x = omega arith

on-y : 1 < 3
on-y = omega arith

on-z : 2 < 3
on-z = omega arith

pub returns : goal.returns
returns c =
    let here = c.args.self in
    let edge = c.args.edge in
    let e = c.requires in
    position_at-known here.size.n here.x here.y here.z edge here.samples.now here.coordinates.now here.of_grid here.coordinates_are
    c.offset.result
    c.offset-2.result
    c.offset-3.result
    c.offset-4.result
    c.offset-5.result
    c.offset-6.result
    c.sample-a.result
    c.sample-b.result
    c.position.result
    c.offset.ensures.1
    c.offset-2.ensures.1
    c.offset-3.ensures.1
    c.offset-4.ensures.1
    c.offset-5.ensures.1
    c.offset-6.ensures.1
    (c.offset.ensures.0 ∙ end-offset 0 0 edge first on-x e)
    (c.offset-2.ensures.0 ∙ end-offset 0 1 edge first on-y e)
    (c.offset-3.ensures.0 ∙ end-offset 0 2 edge first on-z e)
    (c.offset-4.ensures.0 ∙ end-offset 1 0 edge second on-x e)
    (c.offset-5.ensures.0 ∙ end-offset 1 1 edge second on-y e)
    (c.offset-6.ensures.0 ∙ end-offset 1 2 edge second on-z e)
    c.sample-a.ensures
    c.sample-b.ensures
    c.position.ensures
