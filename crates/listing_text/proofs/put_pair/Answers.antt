-- `put_pair`: words and numbers in turn, and the newline.
use Rattle.listing_words.proofs.Putting.{puts_then}
use Rattle.listing_text.proofs.put_pair.Goals as goal

pub returns-clause-puts : goal.returns-clause-puts
returns-clause-puts c =
    puts_then (puts_then (puts_then (puts_then c.put_bytes.ensures c.put_number.ensures.puts) c.put_bytes-2.ensures) c.put_number-2.ensures.puts) c.put_bytes-3.ensures
