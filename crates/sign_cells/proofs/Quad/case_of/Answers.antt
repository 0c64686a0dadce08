-- `case_of`: two bits of each word, put together in the order of the corners, are a byte.
use Rattle.sign_cells.proofs.QuadBits.{case_number, case_number-signs}
use Rattle.sign_cells.proofs.Quad.case_of.Goals as goal

pub returns : goal.returns
unfolding case_number
returns c n samples y z k known cell =
    let args = c.args in
    case_number-signs n samples k args.i cell y z args.self known
