-- `rows_outside`: the rows before y are outside throughout.
use Rattle.layer_tally.specs.Layer.{RowsOutside}
use Rattle.layer_tally.proofs.rows_outside.Given as goal

abbrev pub invariant-loop-y : goal.invariant-loop-y
invariant-loop-y l = RowsOutside l.layers.low.now l.layers.high.now l.size.n l.y
