-- `copy_samples`: the words after the header, as many as fit.
use Rattle.std.proofs.Common.{◌≡◌, length, take, drop, refl, length-take, arith}
use Rattle.record_samples.proofs.Copy.{after_header, copied-run}
use Rattle.record_samples.proofs.copy_samples.Goals as goal

pub returns : goal.returns
returns c =
    let bytes = c.args.bytes.now in
    let buffer = c.args.buffer.now in
    let samples = c.unwrap_or-samples.result.now in
    let count = c.min-count.result in
    let after : samples ≡ drop 20 bytes = after_header bytes c.get.result _ c.unwrap_or-samples.result c.get.ensures.lookup refl c.unwrap_or-samples.ensures in
    let whole : length (take count buffer) ≡ count = omega (arith, c.min-count.ensures, length-take count buffer) in
    copied-run bytes samples buffer c.copy_words.new.buffer count (length (take count buffer)) after c.min-count.ensures whole c.copy_words.ensures
