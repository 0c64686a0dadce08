-- `put_word`: the four bytes stand over those from the place on.
use Rattle.std.proofs.Common.{◌+◌, ◌-◌, refl, sym, ◌∙◌, arith}
use Rattle.std.proofs.lemmas.Slice.{put_mid-paste}
use Rattle.std.proofs.lemmas.List.Edits.{sets-eq}
use Rattle.little_endian.specs.Words.{word_bytes}
use Rattle.little_endian.proofs.put_word.Goals as goal

pub returns : goal.returns
unfolding word_bytes
returns c =
    put_mid-paste c.args.at (c.args.at + 4 - c.args.at) c.args.bytes.now c.copy_from_slice.new.self (word_bytes c.args.value) 4
    (c.copy_from_slice.ensures.after ∙ c.to_le_bytes.ensures) (omega arith) refl ∙ sym (sets-eq (word_bytes c.args.value) c.args.bytes.now c.args.at c.requires)
