-- `write_listing`: the bytes that are read are the reader's first 1,589, and what is written is their listing.
use Rattle.listing.proofs.Known.{on_ok, listed-appended}
use Rattle.listing.proofs.write_listing.Goals as goal

pub returns : goal.returns
returns g c =
    on_ok c.write_all.result (listed-appended (g.R.Read.remaining c.args.reader.now) _ _ _ _ c.in_ok-length.ensures.taken c.list-text.ensures.listing)
    c.write_all.ensures.bytes
