-- The two numbering words, and what is refused of any other; the place of a bad sample.
use mathlib.Core.Path.{◌≡◌, refl, sym, ap, ◌∙◌}
use mathlib.Core.Bool.{Bool, true, false}
use mathlib.Core.Logic.{⊎_elim}
use Prim.Native.Nat.{ℕ, ◌≤◌, ◌<◌}
use native.Mathlib.Omega.{arith}
use lib.Dec.{eqb}
use borrow.Author.Tests.{eqb-true, eqb-false}
use Rattle.std.specs.Prelude.{Option, Some, None, Result, Ok, Err, IsErrAnd, IfErr}
use Rattle.std.specs.Bool.{then_some}
use Rattle.walk.proofs.Bools.{bool_cases}
use Rattle.refusals.specs.declared.Refusal.{Refusal}
use Rattle.refusals.specs.Causes.{cause_of, place_of}
use Rattle.numbering.specs.declared.Numbering.{Numbering}
use Rattle.numbering.specs.declared.Numbering.TheVariants.{Crate, Joined}
use Rattle.numbering.specs.Word.{word_of, numbering_in}

pub word-le : (known : Numbering) → word_of known ≤ 1
word-le Crate = omega arith
word-le Joined = omega arith

abbrev is_known : Result Numbering Refusal → ℕ
is_known (Ok known) = 1
is_known (Err refusal) = 0

abbrev word_in : Result Numbering Refusal → ℕ
word_in (Ok known) = word_of known
word_in (Err refusal) = 2

abbrev cause_in : Result Numbering Refusal → ℕ
cause_in (Ok known) = 0
cause_in (Err refusal) = cause_of refusal

abbrev place_in : Result Numbering Refusal → ℕ
place_in (Ok known) = 0
place_in (Err refusal) = place_of refusal

pub known-word : (word : ℕ) (known : Numbering) → numbering_in word ≡ Ok known → (word_of known ≡ word) × (word ≤ 1)
known-word word known e =
    ⊎_elim
    (λ (b : eqb word 0 ≡ true).
    let w : word ≡ 0 = eqb-true word 0 b in
    let k : 0 ≡ word_of known = ap word_in (rw b at e) in
    (sym k ∙ sym w, omega arith))
    (λ (b : eqb word 0 ≡ false).
    ⊎_elim
    (λ (d : eqb word 1 ≡ true).
    let w : word ≡ 1 = eqb-true word 1 d in
    let k : 1 ≡ word_of known = ap word_in (rw (b, d) at e) in
    (sym k ∙ sym w, omega arith))
    (λ (d : eqb word 1 ≡ false).
    let no : 0 ≡ 1 = ap is_known (rw (b, d) at e) in
    absurd (omega arith))
    (bool_cases (eqb word 1)))
    (bool_cases (eqb word 0))

pub unknown-word : (word : ℕ) (refusal : Refusal) → numbering_in word ≡ Err refusal → (1 < word) × (2 ≡ cause_of refusal) × (0 ≡ place_of refusal)
unknown-word word refusal e =
    ⊎_elim
    (λ (b : eqb word 0 ≡ true).
    let no : 1 ≡ 0 = ap is_known (rw b at e) in
    absurd (omega arith))
    (λ (b : eqb word 0 ≡ false).
    ⊎_elim
    (λ (d : eqb word 1 ≡ true).
    let no : 1 ≡ 0 = ap is_known (rw (b, d) at e) in
    absurd (omega arith))
    (λ (d : eqb word 1 ≡ false).
    let zero-not = eqb-false word 0 b in
    let one-not = eqb-false word 1 d in
    (omega (arith, zero-not, one-not), ap cause_in (rw (b, d) at e), ap place_in (rw (b, d) at e)))
    (bool_cases (eqb word 1)))
    (bool_cases (eqb word 0))

-- what holds of the error that is there
pub of-error : {A E : Type 0} {Q P : E → Type 0} (r : Result A E) → IsErrAnd r Q → ((e : E) → Q e → P e) → IfErr r P
of-error (Ok a) h f = absurd h
of-error (Err e) h f = f e h

abbrev somewhere : Option ℕ → ℕ
somewhere (Some place) = 1
somewhere None = 0

abbrev where_else : Option ℕ → ℕ
where_else (Some place) = place
where_else None = 0

pub bad-at : (bad : Bool) (place at : ℕ) → then_some {T = ℕ} bad place ≡ Some at → (bad ≡ true) × (place ≡ at)
bad-at true place at e = (refl, ap where_else e)
bad-at false place at e = let no : 0 ≡ 1 = ap (λ (o : Option ℕ). somewhere o) e in absurd (omega (arith, no))

pub none-bad : (bad : Bool) (place : ℕ) → then_some {T = ℕ} bad place ≡ None → bad ≡ false
none-bad true place e = let no : 1 ≡ 0 = ap (λ (o : Option ℕ). somewhere o) e in absurd (omega (arith, no))
none-bad false place e = refl
