-- `whole_layer`: above the lowest layer the words alone say what is counted.
use mathlib.Core.List.{List}
use Prim.Native.Nat.{ℕ}
use lib.Ieee.{Float}
use native.Mathlib.Omega.{arith}
use Rattle.row_count.proofs.JoinedLayer.{joined-layer}
use Rattle.row_count.proofs.JoinedCountCellStep.whole_layer.Goals as goal

pub returns-then-layer-gt0 : goal.returns-then-layer-gt0
returns-then-layer-gt0 c =
    let layer = c.args.layer in
    let counted = rw c.requires.0 at c.tally_layer.ensures.layer_counted in (
      λ (work : List ℕ) (vertices : List Float) (indices : List ℕ).
          joined-layer layer.size.n layer.samples.now layer.z work vertices indices c.args.counts c.tally_layer.result
          (counted layer.samples.now layer.z layer.low_are layer.high_are (omega (arith, c.if-layer-gt0.true))),
      c.tally_layer.ensures.written_bound,
    )
