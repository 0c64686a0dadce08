-- `tally_words`: after some turns the words up to place i are counted.
use mathlib.Core.Path.{ap₂, ◌∙◌}
use Prim.Native.Nat.{ℕ, ◌+◌, ◌*◌}
use native.Mathlib.Omega.{arith}
use lib.ListN.{get_or}
use Rattle.walk_models.specs.Owned.{Count}
use Rattle.layer_tally.proofs.CellCounts.{new-most}
use Rattle.layer_tally.proofs.WordSteps.{words-none, words-next}
use Rattle.layer_tally.proofs.tally_words.Goals as goal

pub loop-i-init : goal.loop-i-init
loop-i-init c =
    let args = c.args in
    record {
      counted = words-none args.layers.low.now args.layers.high.now args.masks.now.size.n args.from args.top _;
      grown = omega arith;
      ordered = args.counts.ordered;
    }

pub loop-i-preserved : goal.loop-i-preserved
loop-i-preserved c =
    let args = c.args in
    let masks = args.masks.now in
    let i = c.loop-i.i in
    let corners = c.corners_at-corners.result in
    let inv = c.loop-i.invariant in
    let grown = inv.grown in
    let ordered = inv.ordered in
    let begun = c.loop-i.auto.i in
    let end = c.requires.from_le_to.1 in
    let taken = c.loop-i-test.true in
    let new = c.new_in-made.ensures in
    let triangles = c.triangles_in.ensures in
    let few = triangles.1 in
    let here : Count = record { made = c.loop-i.made; written = c.loop-i.written } in
    let next =
    words-next args.layers.low.now args.layers.high.now masks.size.n i args.top corners masks.masks masks.firsts here
    masks.size.least masks.size.most (omega (arith, end, taken)) masks.masks_are masks.firsts_are c.corners_at-corners.ensures
    args.from (record { made = args.counts.made; written = args.counts.written }) begun inv.counted in
    let more = new-most corners (get_or masks.masks i 0) (get_or masks.firsts i 0) args.top in
    record {
      counted = λ samples z lower upper above tops.
          ap₂ (λ (a b : ℕ). record { made = c.loop-i.made + a; written = c.loop-i.written + 3 * b }) new.0 triangles.0
          ∙ next samples z lower upper above tops;
      grown = omega (arith, begun, grown, few);
      ordered = omega (arith, ordered, new.0, triangles.0, more);
    }
