-- `new_words`: the constant is the list of specs/.
use mathlib.Core.Path.{refl}
use Rattle.packed_tables.specs.Packed.{new_words, new_words_by_class}
use Rattle.packed_tables.proofs.new_words.Goals as goal

pub invariant_of-result : goal.invariant_of-result
unfolding new_words new_words_by_class
invariant_of-result c = record { words_are = refl }
