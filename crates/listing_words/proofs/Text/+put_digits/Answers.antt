-- `put_digits`: the digits but the last are put first, and the last after them.
use Rattle.listing_words.proofs.Digits.{digits-next}
use Rattle.listing_words.proofs.Text.+put_digits.Goals as goal

pub returns-then-places-gt0-clause-puts : goal.returns-then-places-gt0-clause-puts
returns-then-places-gt0-clause-puts t c =
    digits-next c.args.base c.args.places c.args.n c.glyph.result c.if-places-gt0.true c.glyph.ensures c.put_digits.ensures.puts c.put_byte.ensures
