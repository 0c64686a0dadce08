-- `corners_at`: the words of two rows of either layer, as they are and one bit on.
use Rattle.layer_tally.proofs.CornerBits.{corners-from}
use Rattle.layer_tally.proofs.corners_at.Goals as goal

pub returns : goal.returns
returns c =
    let args = c.args in
    corners-from args.layers.low.now args.layers.high.now args.at _ _ _ _
    c.next_word.ensures
    c.next_word-2.ensures
    c.next_word-3.ensures
    c.next_word-4.ensures
