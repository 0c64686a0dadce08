-- `put_listing`: the record is what the definition tests. An accepted record has the samples of its size, so that those lent are the record's.
use Rattle.std.proofs.Common.{◌≡◌, ◌+◌, ◌*◌, Ok, take, arith, sym, ap, ◌∙◌, subst}
use lib.ListN.{replicate}
use lib.Ieee.{binary32, of_bits}
use Rattle.numbering.specs.Word.{word_of}
use Rattle.record_samples.specs.Samples.{samples_of}
use Rattle.sample_record.specs.Record.{record_of}
use Rattle.sample_record.proofs.Accepted.{record_of-accepted}
use Rattle.listing_words.specs.Put.{Puts}
use Rattle.listing.specs.Listing.{grid_text}
use Rattle.listing.proofs.Bytes.{sample_count-le, lent-samples, listing-grid}
use Rattle.listing.proofs.put_listing.Goals as goal

pub returns-in-Ok-clause-puts : goal.returns-in-Ok-clause-puts
returns-in-Ok-clause-puts c =
    let bytes = c.args.bytes.now in
    let header = c.in-Ok.header in
    let n = header.size in
    let held : record_of 7 bytes ≡ Ok header = sym c.record_in.ensures ∙ c.in-Ok.is in
    let accepted = record_of-accepted 7 bytes header held in
    let room = sample_count-le n accepted.most in
    let lent : take (n * n * (n + 1)) c.copy_samples.new.buffer ≡ samples_of bytes =
    ap (take (n * n * (n + 1))) c.copy_samples.ensures
    ∙ lent-samples bytes (replicate 392 (of_bits binary32 0)) (n * n * (n + 1)) accepted.samples (omega (arith, room)) in
    let grid = subst (λ samples. Puts c.args.text.now (grid_text n (word_of header.numbering) samples) c.list_grid.new.text) lent c.list_grid.ensures.puts in
    subst (λ piece. Puts c.args.text.now piece c.list_grid.new.text) (sym (listing-grid bytes header held)) grid
