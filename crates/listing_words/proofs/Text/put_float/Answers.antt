-- `put_float`: the space is put, then eight digits of the bits.
use Rattle.std.proofs.Common.{subst}
use Rattle.listing_words.specs.Put.{Puts}
use Rattle.listing_words.specs.Digits.{digits, float_word}
use Rattle.listing_words.proofs.Putting.{puts_then}
use Rattle.listing_words.proofs.Text.put_float.Goals as goal

pub returns-clause-puts : goal.returns-clause-puts
unfolding float_word
returns-clause-puts c =
    let bits = subst (λ k. Puts c.put_byte.new.self (digits 16 8 k) c.put_digits.new.self) c.bits_of.ensures c.put_digits.ensures.puts in
    puts_then c.put_byte.ensures bits
