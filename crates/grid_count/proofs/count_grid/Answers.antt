-- `count_grid`: either numbering by its own step, from nothing counted.
use mathlib.Core.Path.{◌≡◌, ap}
use mathlib.Core.List.{List, []}
use Prim.Native.Nat.{ℕ, ◌<◌}
use native.Mathlib.Omega.{arith}
use lib.Ieee.{Float}
use Rattle.walk_models.specs.Lent.{untouched}
use Rattle.row_walk.specs.Steps.{Hand}
use Rattle.held_bits.specs.HeldCell.{Held}
use Rattle.grid_count.proofs.CountLayers.{none-before, crate-layers, joined-layers, crate-whole, joined-whole}
use Rattle.grid_count.proofs.Spans.{span-whole}
use Rattle.grid_count.proofs.count_grid.Goals as goal

abbrev nothing : List ℕ → Hand
nothing work = untouched {B = List Float} work [] []

abbrev written : Held → ℕ
written t = t.written

pub walk_layers-requires-clause-begun : goal.walk_layers-requires-clause-begun
walk_layers-requires-clause-begun c = (omega arith, omega arith, none-before _ _ c.args.size.n c.args.samples.now _)

pub walk_layers-requires-else-numbering-eq0-clause-begun : goal.walk_layers-requires-else-numbering-eq0-clause-begun
walk_layers-requires-else-numbering-eq0-clause-begun c = (omega arith, omega arith, none-before _ _ c.args.size.n c.args.samples.now _)

pub returns-then-numbering-eq0-clause-counts_value : goal.returns-then-numbering-eq0-clause-counts_value
returns-then-numbering-eq0-clause-counts_value c =
    let args = c.args in
    let is : args.numbering ≡ 0 = omega (arith, c.if-numbering-eq0.true) in
    rw is (crate-whole args.size.n args.samples.now _ _ (nothing args.work.now) c.walk_layers.ensures.result_after (omega arith))

pub returns-then-numbering-eq0-clause-grows_within : goal.returns-then-numbering-eq0-clause-grows_within
returns-then-numbering-eq0-clause-grows_within c =
    let args = c.args in
    let is : args.numbering ≡ 0 = omega (arith, c.if-numbering-eq0.true) in
    rw is
    (span-whole _ _ _ args.size.n c.walk_layers.result.span (λ k. ap written (crate-layers args.size.n args.samples.now k (nothing args.work.now))) c.walk_layers.ensures.grows_within (omega arith))

pub returns-else-numbering-eq0-clause-counts_value : goal.returns-else-numbering-eq0-clause-counts_value
returns-else-numbering-eq0-clause-counts_value c =
    let args = c.args in
    let some : 0 < args.numbering = omega (arith, c.if-numbering-eq0.false) in
    joined-whole args.size.n args.samples.now args.numbering some _ _ (nothing args.work.now) c.walk_layers-else-numbering-eq0.ensures.result_after (omega arith)

pub returns-else-numbering-eq0-clause-grows_within : goal.returns-else-numbering-eq0-clause-grows_within
returns-else-numbering-eq0-clause-grows_within c =
    let args = c.args in
    let some : 0 < args.numbering = omega (arith, c.if-numbering-eq0.false) in
    span-whole _ _ _ args.size.n c.walk_layers-else-numbering-eq0.result.span (λ k. ap written (joined-layers args.size.n args.samples.now args.numbering some k (nothing args.work.now)))
    c.walk_layers-else-numbering-eq0.ensures.grows_within (omega arith)
