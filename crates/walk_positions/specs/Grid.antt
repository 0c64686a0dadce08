-- A list of samples as the walk sees it, for a size n: which samples are inside, and where a visit puts its vertex. Held to W3, W4, W5 and W6 by
-- `proofs/Cases.antt`.
use Rattle.std.specs.Prelude.{List, ℕ, Float}
use Rattle.marching_cubes_impl.specs.declared.vertex.Vertex.{Vertex}
use Rattle.marching_cubes_impl.specs.Sample.{inside}
use Rattle.positions.specs.Position.{sample_at, end_of, position_of}
use Rattle.walk.specs.Walk.{Inside, Visit}

abbrev pub inside_of : ℕ → List Float → Inside
inside_of n samples x y z = inside (sample_at n samples (record { x = x; y = y; z = z }))

-- on the edge that the visit names, from the samples at its two ends
unfoldable pub position_at : ℕ → List Float → Visit → Vertex
position_at n samples v =
    position_of n v.x v.y v.z v.edge
    (sample_at n samples (end_of v.x v.y v.z v.edge 0))
    (sample_at n samples (end_of v.x v.y v.z v.edge 1))
