-- `set_in`: the bits of both.
use Prim.Native.Nat.{◌<◌, ◌^◌}
use lib.Bits.{and_lt}
use lib.Count.{ones-le}
use borrow.Author.Rules.{rules}
use Rattle.cell_tally.proofs.SetBits.{ones-in}
use Rattle.cell_tally.proofs.set_in.Goals as goal

pub returns : goal.returns
returns c =
    let word : c.args.word < 2 ^ 32 = search rules in
    let mask : c.args.mask < 2 ^ 32 = search rules in
    (ones-in _ _ word mask, ones-le 32 _ (and_lt 32 _ _ word mask))
