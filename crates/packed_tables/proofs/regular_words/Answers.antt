-- `regular_words`: the constant is the list that specs/ works out from the rows.
use mathlib.Core.Path.{refl}
use Rattle.marching_cubes_tables.specs.Tables.{triangle_connection}
use Rattle.packed_tables.specs.Regular.{regular_words}
use Rattle.packed_tables.proofs.regular_words.Goals as goal

pub returns : goal.returns
unfolding regular_words triangle_connection
returns c = refl
