-- A point between two points: u * (1 - t) + v * t on each axis, in f32 operations in the crate's order (`interpolate`).
use Rattle.std.specs.Prelude.{Float}
use Rattle.std.specs.Float.{binary32}
use Rattle.std.specs.Float.Ieee.{add, sub, mul}
use Rattle.marching_cubes_impl.specs.declared.vertex.Vertex.{Vertex}
use Rattle.marching_cubes_impl.specs.Sample.{one}

unfoldable pub between : Float → Float → Float → Float
between u v t = add binary32 (mul binary32 u (sub binary32 one t)) (mul binary32 v t)

abbrev pub point_between : Vertex → Vertex → Float → Vertex
point_between u v t = record { x = between u.x v.x t; y = between u.y v.y t; z = between u.z v.z t }
