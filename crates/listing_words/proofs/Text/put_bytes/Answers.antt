-- `put_bytes`: the bytes from the end of the text on are the piece.
use Rattle.std.proofs.Common.{rules, refl}
use Rattle.listing_words.proofs.Putting.{put-part}
use Rattle.listing_words.proofs.Text.put_bytes.Goals as goal

pub returns : goal.returns
returns c = record { put = record { holds = put-part _ _ _ _ _ (search rules) refl c.requires; ends = refl }; whole = search rules; lent = search rules }
