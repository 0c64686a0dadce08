-- The numbering words of document 01: 0 the crate's numbering, 1 the joined, and no other.
use Rattle.std.specs.Prelude.{ℕ, cond, eqb, Result, Ok, Err}
use Rattle.refusals.specs.declared.Refusal.{Refusal}
use Rattle.refusals.specs.declared.Refusal.TheVariants as refusal
use Rattle.numbering.specs.declared.Numbering.{Numbering}
use Rattle.numbering.specs.declared.Numbering.TheVariants.{Crate, Joined}

abbrev pub word_of : Numbering → ℕ
word_of Crate = 0
word_of Joined = 1

abbrev pub numbering_in : ℕ → Result Numbering Refusal
numbering_in word = cond (eqb word 0) (Ok Crate) (cond (eqb word 1) (Ok Joined) (Err refusal.Numbering))
