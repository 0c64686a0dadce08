-- `after`: the layer adds nothing, or it is the first that adds something, or one more.
use mathlib.Core.Path.{sym, ◌∙◌}
use Rattle.grid_walk.proofs.Layers.{span-kept, span-begun, span-longer}
use Rattle.grid_walk.proofs.Span.after.Goals as goal

pub returns-then-after-before : goal.returns-then-after-before
returns-then-after-before c = λ counted within old new. span-kept counted _ _ within (old ∙ sym c.if-after-before.true ∙ sym new)

pub returns-then-before-eq0 : goal.returns-then-before-eq0
returns-then-before-eq0 c = λ counted within old new. span-begun counted _ _ within (old ∙ c.if-before-eq0.true)

pub returns : goal.returns
returns c = λ counted within old new. span-longer counted _ _ within
