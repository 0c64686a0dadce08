-- What is known of a record where a check refuses nothing, and that nothing else is asked of it. `check_record`, the reader and the round trips
-- cite these.
use mathlib.Core.Path.{◌≡◌}
use mathlib.Core.Bool.{not}
use mathlib.Core.List.{List}
use Prim.Native.Nat.{ℕ, ◌+◌, ◌*◌, ◌%◌, ◌≤◌}
use lib.Dec.{ltb}
use lib.ListN.{length}
use borrow.Author.Tests.{ltb-false, eqb-true, not-false, le-ltb, eq-eqb}
use Rattle.little_endian.specs.Words.{word_at}
use Rattle.mesh_record.specs.Refusals.{none, differ, in_threes, opening, contents}
use Rattle.mesh_record.proofs.Passed.{check-passed, part-passed, Opened, opening-known, opening-passed, Sound, contents-known, contents-passed}
use Rattle.mesh_checks.specs.Reading.{mesh_in, fields_in, refusal_in}

pub record Fields (bytes : List ℕ) : Type 0 where
  pub vertices-at : word_at bytes 16 ≡ 28
  pub threes : word_at bytes 20 % 3 ≡ 0
  pub indices-at : word_at bytes 24 ≡ 28 + 12 * word_at bytes 12
  pub whole : length bytes ≡ 28 + 12 * word_at bytes 12 + 4 * word_at bytes 20

pub fields_in-known : (bytes : List ℕ) → fields_in bytes ≡ none → Fields bytes
unfolding fields_in
fields_in-known bytes h =
    let one = check-passed (differ (word_at bytes 16) 28) _ _ h in
    let two = check-passed (not (in_threes (word_at bytes 20))) _ _ one.1 in
    let three = check-passed (differ (word_at bytes 24) (28 + 12 * word_at bytes 12)) _ _ two.1 in
    let four = check-passed (differ (length bytes) (28 + 12 * word_at bytes 12 + 4 * word_at bytes 20)) _ none three.1 in
    record {
      vertices-at = eqb-true (word_at bytes 16) 28 (not-false _ one.0);
      threes = eqb-true (word_at bytes 20 % 3) 0 (not-false _ two.0);
      indices-at = eqb-true (word_at bytes 24) (28 + 12 * word_at bytes 12) (not-false _ three.0);
      whole = eqb-true (length bytes) (28 + 12 * word_at bytes 12 + 4 * word_at bytes 20) (not-false _ four.0);
    }

fields_in-passed : (bytes : List ℕ) → Fields bytes → fields_in bytes ≡ none
unfolding fields_in
fields_in-passed bytes fields =
    rw (
      eq-eqb (word_at bytes 16) 28 fields.vertices-at,
      eq-eqb (word_at bytes 20 % 3) 0 fields.threes,
      eq-eqb (word_at bytes 24) (28 + 12 * word_at bytes 12) fields.indices-at,
      eq-eqb (length bytes) (28 + 12 * word_at bytes 12 + 4 * word_at bytes 20) fields.whole,
    )

-- what is known of a record in which nothing is refused
pub record Whole (bytes : List ℕ) : Type 0 where
  pub long : 28 ≤ length bytes
  pub opened : Opened (word_at bytes 0) (word_at bytes 4) (word_at bytes 8)
  pub fields : Fields bytes
  pub sound : Sound (mesh_in bytes)

pub refusal_in-known : (bytes : List ℕ) → refusal_in bytes ≡ none → Whole bytes
unfolding refusal_in
refusal_in-known bytes h =
    let long = check-passed (ltb (length bytes) 28) _ _ h in
    let parts = part-passed (opening (word_at bytes 0) (word_at bytes 4) (word_at bytes 8)) _ long.1 in
    let rest = part-passed (fields_in bytes) (contents 28 (mesh_in bytes)) parts.1 in
    record {
      long = ltb-false (length bytes) 28 long.0;
      opened = opening-known (word_at bytes 0) (word_at bytes 4) (word_at bytes 8) parts.0;
      fields = fields_in-known bytes rest.0;
      sound = contents-known 28 (mesh_in bytes) rest.1;
    }

pub refusal_in-passed : (bytes : List ℕ) → Whole bytes → refusal_in bytes ≡ none
unfolding refusal_in
refusal_in-passed bytes known =
    rw (
      le-ltb (length bytes) 28 known.long,
      opening-passed (word_at bytes 0) (word_at bytes 4) (word_at bytes 8) known.opened,
      fields_in-passed bytes known.fields,
      contents-passed 28 (mesh_in bytes) known.sound,
    )
