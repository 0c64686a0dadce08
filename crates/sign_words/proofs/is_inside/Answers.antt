-- `is_inside`: the comparison with 0.0, by `inside-test`.
use mathlib.Core.Path.{refl, sym}
use Rattle.marching_cubes_impl.proofs.Signs.{inside-test}
use Rattle.sign_words.proofs.is_inside.Goals as goal

pub returns : goal.returns
returns c = sym (inside-test c.args.sample _ refl)
