-- What the cell call answers from eight corner values: the sign byte, and the edges that its row of the table names.
use Rattle.std.specs.Prelude.{List, [], ◌∷◌, ℕ, zero, suc, ℤ, pos, negsuc, Float}
use Rattle.marching_cubes_tables.specs.Rule.{row_edges}
use Rattle.marching_cubes_impl.specs.declared.Cell.{Cell}
use Rattle.marching_cubes_impl.specs.Signs.{sign_byte}

-- n places: the edges in order, then -1
abbrev pub padded : ℕ → List ℕ → List ℤ
padded zero es = []
padded (suc n) [] = negsuc 0 ∷ padded n []
padded (suc n) (e ∷ es) = pos e ∷ padded n es

abbrev pub cell_of : List Float → Cell
cell_of values = record { signs = sign_byte values; edges = padded 16 (row_edges (sign_byte values)) }
