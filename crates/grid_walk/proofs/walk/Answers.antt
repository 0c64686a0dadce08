-- `walk`: either numbering by its own step; the layers before the span have nothing to make.
use mathlib.Core.Path.{◌≡◌, ◌∙◌}
use native.Mathlib.Omega.{arith}
use Rattle.grid_walk.proofs.Layers.{crate-layers, joined-layers, joined-words}
use Rattle.grid_walk.proofs.IdleLayers.{walk_steps-begun}
use Rattle.grid_walk.proofs.walk.Goals as goal

pub walk_layers-requires-clause-begun : goal.walk_layers-requires-clause-begun
walk_layers-requires-clause-begun c =
    let args = c.args in
    let within = c.requires.grows_within.0 in (
      within.ordered,
      within.most,
      crate-layers args.size.n args.samples.now args.span.first _ ∙ walk_steps-begun 0 args.size.n args.samples.now args.span within args.work.now args.vertices.now args.indices.now c.requires.grows_within.1,
    )

pub walk_layers-requires-else-numbering-eq0-clause-begun : goal.walk_layers-requires-else-numbering-eq0-clause-begun
walk_layers-requires-else-numbering-eq0-clause-begun c =
    let args = c.args in
    let within = c.requires.grows_within.0 in (
      within.ordered,
      within.most,
      joined-layers args.size.n args.samples.now args.span.first _ ∙ walk_steps-begun 1 args.size.n args.samples.now args.span within args.work.now args.vertices.now args.indices.now c.requires.grows_within.1,
    )

pub returns-then-numbering-eq0-clause-result_after : goal.returns-then-numbering-eq0-clause-result_after
returns-then-numbering-eq0-clause-result_after c =
    let args = c.args in
    let is : args.numbering ≡ 0 = omega (arith, c.if-numbering-eq0.true) in
    rw is (c.walk_layers.ensures.result_after ∙ crate-layers args.size.n args.samples.now args.span.last _)

pub returns-else-numbering-eq0-clause-result_after : goal.returns-else-numbering-eq0-clause-result_after
returns-else-numbering-eq0-clause-result_after c =
    let args = c.args in
    c.walk_layers-else-numbering-eq0.ensures.result_after ∙ joined-layers args.size.n args.samples.now args.span.last _
    ∙ joined-words args.numbering args.size.n args.samples.now (omega (arith, c.if-numbering-eq0.false)) args.span.last _
