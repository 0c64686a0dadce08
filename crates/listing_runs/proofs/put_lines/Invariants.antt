-- `put_lines`: after k turns the lines of the first k threes are put, and the words after these are left.
use Rattle.std.proofs.Common.{◌≡◌, length}
use Rattle.listing_runs.proofs.Runs.{Listed}
use Rattle.listing_runs.proofs.put_lines.Given as goal

abbrev pub invariant-loop-three : goal.invariant-loop-three
invariant-loop-three g l =
    Listed g.W.Word.LETTER g.W.Word.word g.W.Word.missing g.W.Word.most l.words l.initial.text l.text l.three-iterator.rest.now (length l.yielded) × (l.three-iterator.size ≡ 3)
