-- `triangles_in`: what the corners have, less what faces and opposite corners take away.
use native.Mathlib.Omega.{arith}
use Rattle.cell_tally.proofs.Tallies.{triangles-balance, triangles-most}
use Rattle.cell_tally.proofs.Corners.triangles_in.Goals as goal

pub overflow_sub-result : goal.overflow_sub-result
overflow_sub-result c =
    let args = c.args in
    let balance = triangles-balance args.self args.mask in
    omega (arith, balance, c.corners_inside.ensures.0, c.cells_inside.ensures.0, c.faces_inside.ensures.0, c.opposite_outside.ensures.0)

pub returns : goal.returns
returns c =
    let args = c.args in
    let balance = triangles-balance args.self args.mask in
    let corners = c.corners_inside.ensures.0 in
    let cells = c.cells_inside.ensures.0 in
    let faces = c.faces_inside.ensures.0 in
    let opposite = c.opposite_outside.ensures.0 in
    (omega (arith, balance, corners, cells, faces, opposite), omega (arith, balance, corners, cells, faces, opposite, triangles-most args.self args.mask))
