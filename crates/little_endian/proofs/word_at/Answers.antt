-- `word_at`: the library's sum of the four bytes, by powers of 256, is the definition's.
use Rattle.std.proofs.Common.{arith}
use Rattle.little_endian.specs.Words.{word_at}
use Rattle.little_endian.proofs.word_at.Goals as goal

pub returns : goal.returns
unfolding word_at
returns c = omega (arith, c.from_le_bytes.ensures)
