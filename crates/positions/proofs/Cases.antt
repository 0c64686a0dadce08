-- The positions of document 01's cases W3, W4 and W6, by computation: n = 2, and the edges in the order of their visits; and the places of
-- samples.
use mathlib.Core.Path.{◌≡◌, refl}
use mathlib.Core.Bool.{false}
use mathlib.Core.List.{[], ◌∷◌}
use lib.IntN.{negsuc}
use lib.Ieee.{Float, fin, eq, add, sub, mul, div, neg, of_int}
use Rattle.marching_cubes_tables.specs.Tables.{corners, edge_connection}
use Rattle.marching_cubes_impl.specs.declared.vertex.Vertex.{Vertex}
use Rattle.marching_cubes_impl.specs.Sample.{nought, half, one}
use Rattle.marching_cubes_impl.specs.Edge.{offset_of}
use Rattle.marching_cubes_impl.specs.Vertex.{between}
use Rattle.positions.specs.Position.{step_of, corner_of, sample_at, position_of}
use Rattle.positions.proofs.Believable.{minus_one}

abbrev one_and_half : Float
one_and_half = fin false 3 (negsuc 0)

abbrev at : Float → Float → Float → Vertex
at x y z = record { x = x; y = y; z = z }

cases :
    -- W3: sample 0 is -1.0; edges 0, 8 and 3 of the first cell
    position_of 2 0 0 0 0 minus_one one ∷ position_of 2 0 0 0 8 minus_one one ∷ position_of 2 0 0 0 3 one minus_one ∷
    -- W4: sample 4 is -1.0; edges 4, 7 and 8 of the first cell, and edge 8 of the one above, past 1.0
    position_of 2 0 0 0 4 minus_one one ∷ position_of 2 0 0 0 7 one minus_one ∷ position_of 2 0 0 0 8 one minus_one ∷
    position_of 2 0 0 1 8 minus_one one ∷
    -- W6: sample 0 is 0.0
    position_of 2 0 0 0 0 nought one ∷ position_of 2 0 0 0 8 nought one ∷ position_of 2 0 0 0 3 one nought ∷
    [] ≡
    at half nought nought ∷ at nought nought half ∷ at nought half nought ∷
    at half nought one ∷ at nought half one ∷ at nought nought half ∷ at nought nought one_and_half ∷
    at nought nought nought ∷ at nought nought nought ∷ at nought nought nought ∷
    []
unfolding position_of step_of corner_of between offset_of corners edge_connection eq add sub mul div neg of_int
cases = refl

-- in a grid of size 2, along x, then y, then z: the second, the third and the fifth sample
places :
    let samples = nought ∷ one ∷ half ∷ nought ∷ minus_one ∷ [] in
    sample_at 2 samples (record { x = 1; y = 0; z = 0 }) ∷ sample_at 2 samples (record { x = 0; y = 1; z = 0 }) ∷
    sample_at 2 samples (record { x = 0; y = 0; z = 1 }) ∷ [] ≡ one ∷ half ∷ minus_one ∷ []
places = refl
