-- `put_size`: a word, a number and the words of the numbering.
use Rattle.listing_words.proofs.Putting.{puts_then}
use Rattle.listing_text.proofs.put_size.Goals as goal

pub returns-clause-puts : goal.returns-clause-puts
returns-clause-puts c =
    puts_then (puts_then c.put_bytes.ensures c.put_number.ensures.puts) c.put_numbering.ensures.puts
