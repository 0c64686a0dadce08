-- The floats of a mesh's vertices, beside the grid as the walk sees it.
use Rattle.std.specs.Prelude.{List, [], ◌∷◌, Float}
use Rattle.marching_cubes_impl.specs.declared.vertex.Vertex.{Vertex}
pub use Rattle.walk_positions.specs.Grid.{inside_of}
unfoldable pub use Rattle.walk_positions.specs.Grid.{position_at}

-- one vertex after the other
unfoldable pub floats_of : List Vertex → List Float
floats_of [] = []
floats_of (p ∷ ps) = p.x ∷ p.y ∷ p.z ∷ floats_of ps
