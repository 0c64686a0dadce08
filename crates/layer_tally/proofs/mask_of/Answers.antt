-- `mask_of`: all 32 bits, cut at the row's end.
use Rattle.layer_tally.proofs.MaskBits.{mask-bits}
use Rattle.layer_tally.proofs.mask_of.Goals as goal

pub returns : goal.returns
returns c = mask-bits c.args.n c.args.k c.cut.result c.cut.ensures
