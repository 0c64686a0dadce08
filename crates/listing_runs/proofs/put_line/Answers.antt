-- `put_line`: the letter, three words and the newline, one after another.
use Rattle.std.proofs.Common.{subst, [], ◌∷◌}
use Rattle.listing_words.specs.Put.{Puts}
use Rattle.listing_words.proofs.Putting.{puts_then}
use Rattle.listing_runs.proofs.put_line.Goals as goal

pub returns-clause-puts : goal.returns-clause-puts
returns-clause-puts g c =
    let letter = subst (λ k. Puts c.args.text.now (k ∷ []) c.put_bytes.new.self) c.LETTER.ensures c.put_bytes.ensures in
    puts_then (puts_then (puts_then (puts_then letter c.put.ensures.puts) c.put-2.ensures.puts) c.put-3.ensures.puts) c.put_bytes-2.ensures
