-- `put_digits`: the measure is the number of places.
use Rattle.listing_words.proofs.Text.+put_digits.Given as goal

abbrev pub decreases-put_digits : goal.decreases-put_digits
decreases-put_digits l = l.places
