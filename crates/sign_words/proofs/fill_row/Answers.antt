-- `fill_row`: the whole words, then the others.
use Prim.Native.Nat.{◌+◌, ◌*◌, ◌≤◌}
use native.Mathlib.Nat.{le_trans}
use native.Mathlib.Omega.{arith}
use lib.ListN.{length}
use Rattle.sign_words.proofs.RowWords.{row-filled, row_within}
use Rattle.sign_words.proofs.fill_row.Goals as goal

pub returns : goal.returns
returns c =
    let args = c.args in
    let there : (args.z * args.size.n + args.y) * args.size.n + args.size.n ≤ length args.samples.now = le_trans (row_within args.size.n args.y args.z c.requires.0) c.requires.1 in
    row-filled args.size.n args.samples.now args.z args.y _ (omega arith) there _ _ _ c.fill_whole.ensures c.fill_end.ensures
