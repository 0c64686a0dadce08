-- `put_number`: the space is put, then as many digits as the number has.
use Rattle.std.proofs.Common.{◌≡◌, ◌+◌, subst, arith}
use Rattle.listing_words.specs.Put.{Puts}
use Rattle.listing_words.specs.Digits.{digits, places_within, number_word}
use Rattle.listing_words.proofs.Putting.{puts_then}
use Rattle.listing_words.proofs.Digits.{places-log}
use Rattle.listing_words.proofs.Text.put_number.Goals as goal

pub returns-clause-puts : goal.returns-clause-puts
unfolding number_word
returns-clause-puts c =
    let places : c.ilog10.result + 1 ≡ places_within 19 c.args.n = places-log _ _ c.ilog10.ensures.bound (omega arith) (omega arith) in
    let number = subst (λ k. Puts c.put_byte.new.self (digits 10 k c.args.n) c.put_digits.new.self) places c.put_digits.ensures.puts in
    puts_then c.put_byte.ensures number
