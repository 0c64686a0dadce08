-- `put_first`: its two halves, one after the other.
use Rattle.listing_words.proofs.Putting.{puts_then}
use Rattle.listing_text.proofs.put_first.Goals as goal

pub returns-clause-puts : goal.returns-clause-puts
returns-clause-puts c =
    puts_then c.put_size.ensures.puts c.put_counts.ensures.puts
