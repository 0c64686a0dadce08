-- `next_of`: a word is shifted, and one bit of the next stands at its top.
use Prim.Native.Nat.{◌<◌, ◌^◌}
use borrow.Author.Rules.{rules}
use Rattle.layer_tally.proofs.CornerBits.{next-from}
use Rattle.layer_tally.proofs.next_of.Goals as goal

pub returns : goal.returns
returns c =
    let word : c.args.word < 2 ^ 32 = search rules in
    next-from _ _ word
