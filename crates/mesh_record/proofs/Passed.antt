-- What is known where a check refuses nothing, and that nothing else is asked. The reader, the writer and the round trips cite these.
use mathlib.Core.Path.{◌≡◌, refl, subst}
use mathlib.Core.Bool.{Bool, true, false, cond, ◌||◌}
use Prim.Native.Nat.{ℕ, ◌+◌, ◌*◌, ◌≤◌, ◌<◌}
use native.Mathlib.Omega.{arith}
use lib.Dec.{T, ltb, eqb}
use lib.ListN.{length, get_or}
use borrow.Author.Tests.{ltb-true, ltb-false, eqb-true, not-false, lt-ltb, le-ltb, eq-eqb}
use Rattle.std.proofs.Common.{Option, Some, None, Ok, Err}
use Rattle.std.specs.Result.{result_and}
use Rattle.refusals.specs.declared.Refusal.{Refusal}
use Rattle.refusals.specs.declared.Refusal.TheVariants.{Size, Numbering, SampleCount, WorkingMemory, Sample, Malformed}
use Rattle.refusals.specs.Causes.{cause_of}
use Rattle.mesh_record.specs.Mesh.{Mesh, vertex_count, finite, below}
use Rattle.mesh_record.specs.Refusals.{Checked, none, malformed_word, differ, opening, lowest_bad, contents}
use Rattle.mesh_record.proofs.LowestBad.{lowest_bad-none, none-lowest_bad}

-- ---- one refusal, one check, one part

-- cause 0 is no refusal's
pub some-cause : (refusal : Refusal) → 1 ≤ cause_of refusal
some-cause Size = omega arith
some-cause Numbering = omega arith
some-cause SampleCount = omega arith
some-cause WorkingMemory = omega arith
some-cause (Sample place) = omega arith
some-cause (Malformed place) = omega arith

pub check-passed : (b : Bool) (refusal : Refusal) (rest : Checked) → cond b (Err refusal) rest ≡ none → (b ≡ false) × (rest ≡ none)
check-passed true refusal rest h = absurd (cc)
check-passed false refusal rest h = (refl, h)

pub part-passed : (first second : Checked) → result_and first second ≡ none → (first ≡ none) × (second ≡ none)
part-passed (Ok x) second h = (refl, h)
part-passed (Err refusal) second h = absurd (cc)

pub word-passed : (start : ℕ) (bad : Option ℕ) → malformed_word start bad ≡ none → bad ≡ None
word-passed start None h = refl
word-passed start (Some i) h = absurd (cc)

pub neither_left : (a b : Bool) → a || b ≡ false → a ≡ false
neither_left false b h = refl
neither_left true b h = h

pub neither_right : (a b : Bool) → a || b ≡ false → b ≡ false
neither_right false b h = h
neither_right true b h = absurd (subst T h tt)

-- ---- what has passed

pub record Opened (version size numbering : ℕ) : Type 0 where
  pub first-version : version ≡ 1
  pub least : 2 ≤ size
  pub most : size ≤ 128
  pub numbering-word : numbering ≤ 1

pub opening-known : (version size numbering : ℕ) → opening version size numbering ≡ none → Opened version size numbering
unfolding opening
opening-known version size numbering h =
    let sizes = ltb size 2 || ltb 128 size in
    let one = check-passed (differ version 1) _ _ h in
    let two = check-passed sizes _ _ one.1 in
    let three = check-passed (ltb 1 numbering) _ none two.1 in
    record {
      first-version = eqb-true version 1 (not-false (eqb version 1) one.0);
      least = ltb-false size 2 (neither_left (ltb size 2) (ltb 128 size) two.0);
      most = ltb-false 128 size (neither_right (ltb size 2) (ltb 128 size) two.0);
      numbering-word = ltb-false 1 numbering three.0;
    }

pub opening-passed : (version size numbering : ℕ) → Opened version size numbering → opening version size numbering ≡ none
unfolding opening
opening-passed version size numbering known =
    rw (eq-eqb version 1 known.first-version, le-ltb size 2 known.least, le-ltb 128 size known.most, le-ltb 1 numbering known.numbering-word)

pub record Sound (m : Mesh) : Type 0 where
  pub coordinates-finite : (i : ℕ) → i < length m.coordinates → finite (get_or m.coordinates i 0) ≡ true
  pub indices-below : (i : ℕ) → i < length m.indices → get_or m.indices i 0 < vertex_count m

pub contents-known : (start : ℕ) (m : Mesh) → contents start m ≡ none → Sound m
unfolding contents
contents-known start m h =
    let parts = part-passed (malformed_word start (lowest_bad finite m.coordinates)) _ h in
    record {
      coordinates-finite = lowest_bad-none finite m.coordinates (word-passed start _ parts.0);
      indices-below = λ i within. ltb-true (get_or m.indices i 0) (vertex_count m)
          (lowest_bad-none (below (vertex_count m)) m.indices (word-passed (start + 4 * length m.coordinates) _ parts.1) i within);
    }

pub contents-passed : (start : ℕ) (m : Mesh) → Sound m → contents start m ≡ none
unfolding contents
contents-passed start m sound =
    rw (
      none-lowest_bad finite m.coordinates sound.coordinates-finite,
      none-lowest_bad (below (vertex_count m)) m.indices (λ i within. lt-ltb (get_or m.indices i 0) (vertex_count m) (sound.indices-below i within)),
    )
