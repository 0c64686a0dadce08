-- `list`: the text begins at the front of the room, and ends where the listing does.
use Rattle.std.proofs.Common.{arith}
use Rattle.listing.proofs.Bytes.{front_of}
use Rattle.listing.proofs.list.Goals as goal

pub returns-clause-listing : goal.returns-clause-listing
returns-clause-listing c = front_of _ _ _ _ c.put_listing.ensures.puts.put (omega arith)
