-- `tally_words`: after some turns the words up to place i are counted.
use Prim.Native.Nat.{◌+◌, ◌-◌, ◌*◌, ◌≤◌}
use Rattle.layer_tally.specs.Layer.{WordsCounted}
use Rattle.layer_tally.proofs.tally_words.Given as goal

abbrev pub invariant-loop-i : goal.invariant-loop-i
invariant-loop-i l = record {
  counted : WordsCounted l.layers.low.now l.layers.high.now l.masks.size.n l.from l.i l.top
      (record { made = l.initial.made; written = l.initial.written }) (record { made = l.made; written = l.written });
  grown : l.written ≤ l.initial.written + 480 * (l.i - l.from);
  ordered : l.made ≤ l.written;
}
