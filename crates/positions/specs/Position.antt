-- Where a vertex is put: document 01, "Grid and walk", each f32 operation rounded once and in the crate's order. Held to W3 and W4 by
-- `proofs/Cases.antt`, and to the Rust's positions by the oracle.
use Rattle.std.specs.Prelude.{List, ℕ, ◌+◌, ◌-◌, ◌*◌, pos, get_or, Float}
use Rattle.std.specs.Float.{nan, binary32}
use Rattle.std.specs.Float.Ieee.{mul, div, of_int}
use Rattle.marching_cubes_tables.specs.Tables.{corner_offset, edge_end}
use Rattle.marching_cubes_impl.specs.declared.vertex.Vertex.{Vertex}
use Rattle.marching_cubes_impl.specs.Sample.{one}
use Rattle.marching_cubes_impl.specs.Edge.{offset_of}
use Rattle.marching_cubes_impl.specs.Vertex.{between, point_between}

-- h = 1.0 / (n - 1)
unfoldable pub step_of : ℕ → Float
step_of n = div binary32 one (of_int binary32 (pos (n - 1)))

-- the coordinate of the whole number k: k as f32 * h
unfoldable pub corner_of : ℕ → Float → Float
corner_of k h = mul binary32 (of_int binary32 (pos k)) h

-- one coordinate of a vertex, on an edge whose ends have the whole numbers j and k on this axis and the samples a and b, in order
abbrev pub coordinate_of : ℕ → ℕ → ℕ → Float → Float → Float
coordinate_of n j k a b = between (corner_of j (step_of n)) (corner_of k (step_of n)) (offset_of a b)

-- the place of a sample, in whole numbers
pub record GridPoint : Type 0 where
  pub x : ℕ
  pub y : ℕ
  pub z : ℕ

-- the sample at a place, in layers of n times n
abbrev pub sample_at : ℕ → List Float → GridPoint → Float
sample_at n samples p = get_or samples ((p.z * n + p.y) * n + p.x) nan

-- the sample point p, for the step h
abbrev pub point_of : GridPoint → Float → Vertex
point_of p h = record { x = corner_of p.x h; y = corner_of p.y h; z = corner_of p.z h }

-- the vertex on the edge from the point u with the sample a to the point v with the sample b
abbrev pub vertex_between : Vertex → Vertex → Float → Float → Vertex
vertex_between u v a b = point_between u v (offset_of a b)

-- the same from whole numbers, in a grid of size n
abbrev pub vertex_of : ℕ → GridPoint → GridPoint → Float → Float → Vertex
vertex_of n p q a b = vertex_between (point_of p (step_of n)) (point_of q (step_of n)) a b

-- the sample at an end, 0 or 1, of edge e of the cell x, y, z, as `EDGE_CONNECTION` orders the ends: edges 2, 3, 6 and 7 run from high to low
abbrev pub end_of : ℕ → ℕ → ℕ → ℕ → ℕ → GridPoint
end_of x y z e end =
    let c = edge_end e end in
    record { x = x + corner_offset c 0; y = y + corner_offset c 1; z = z + corner_offset c 2 }

-- the vertex on edge e of the cell x, y, z, whose ends have the samples a and b
unfoldable pub position_of : ℕ → ℕ → ℕ → ℕ → ℕ → Float → Float → Vertex
position_of n x y z e a b = vertex_of n (end_of x y z e 0) (end_of x y z e 1) a b
