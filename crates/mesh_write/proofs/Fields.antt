-- What is known of the header to be where no field is refused, and that nothing else is asked of it. The writer and the round trips cite these.
use mathlib.Core.Path.{◌≡◌}
use mathlib.Core.Bool.{not, ◌||◌}
use Prim.Native.Nat.{ℕ, ◌+◌, ◌*◌, ◌/◌, ◌%◌}
use native.Mathlib.Omega.{arith}
use borrow.Author.Tests.{ltb-false, eqb-true, not-false, le-ltb, eq-eqb}
use Rattle.mesh_record.specs.Refusals.{none, in_threes}
use Rattle.mesh_record.proofs.Passed.{check-passed, neither_left, neither_right}
use Rattle.mesh_write.specs.Writing.{too_large, fields_of, Fits}

module _ (coordinates indices : ℕ) where
  pub fields_of-known : fields_of coordinates indices ≡ none → Fits coordinates indices
  unfolding fields_of
  fields_of-known h =
      let counted = not (in_threes coordinates) || too_large (coordinates / 3) in
      let listed = not (in_threes indices) || too_large indices in
      let one = check-passed counted _ _ h in
      let two = check-passed listed _ _ one.1 in
      let three = check-passed (too_large (28 + 12 * (coordinates / 3))) _ none two.1 in
      let whole : coordinates % 3 ≡ 0 = eqb-true (coordinates % 3) 0 (not-false _ (neither_left (not (in_threes coordinates)) (too_large (coordinates / 3)) one.0)) in
      record {
        coordinates-whole = omega arith;
        indices-whole = eqb-true (indices % 3) 0 (not-false _ (neither_left (not (in_threes indices)) (too_large indices) two.0));
        indices-word = ltb-false 4294967295 indices (neither_right (not (in_threes indices)) (too_large indices) two.0);
        offset_word = ltb-false 4294967295 (28 + 12 * (coordinates / 3)) three.0;
      }

  pub fields_of-passed : Fits coordinates indices → fields_of coordinates indices ≡ none
  unfolding fields_of
  fields_of-passed fits =
      rw (
        eq-eqb (coordinates % 3) 0 (omega (arith, fits.coordinates-whole)),
        le-ltb 4294967295 (coordinates / 3) (omega (arith, fits.offset_word)),
        eq-eqb (indices % 3) 0 fits.indices-whole,
        le-ltb 4294967295 indices fits.indices-word,
        le-ltb 4294967295 (28 + 12 * (coordinates / 3)) fits.offset_word,
      )
