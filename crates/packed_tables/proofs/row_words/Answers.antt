-- `row_words`: the constant is the list of specs/.
use mathlib.Core.Path.{refl}
use Rattle.packed_tables.specs.Packed.{row_words}
use Rattle.packed_tables.proofs.row_words.Goals as goal

pub returns : goal.returns
unfolding row_words
returns c = refl
