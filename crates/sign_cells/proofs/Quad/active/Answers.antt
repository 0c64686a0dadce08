-- `active`: the word of the mixed cells, by `mixed_word-active`.
use mathlib.Core.Path.{◌∙◌}
use Rattle.sign_cells.proofs.QuadBits.{some_word, every_word, mixed_word, mixed_word-active}
use Rattle.sign_cells.proofs.Quad.active.Goals as goal

pub returns : goal.returns
unfolding mixed_word some_word every_word
returns c samples y z known =
    let args = c.args in
    c.cut.ensures ∙ mixed_word-active args.n samples y z args.k args.self known
