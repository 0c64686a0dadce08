-- The writer and the reader together: which meshes are written, that what was written is read back, and that what was read and is written again is the
-- same record. The safety file cites these.
use mathlib.Core.Path.{◌≡◌, refl, sym, ap, ap₂, ◌∙◌, subst}
use mathlib.Core.Bool.{Bool, true, false, cond, ◌||◌}
use mathlib.Core.List.{List, map}
use Prim.Native.Nat.{ℕ, ◌*◌, ◌/◌, ◌≤◌}
use native.Mathlib.Omega.{arith}
use lib.Dec.{ltb}
use lib.ListN.{length, take, drop, length-map}
use lib.Seq.{take-append_seam, take_at}
use lib.Ieee.{Float, binary32, of_bits, to_bits}
use borrow.Author.Tests.{ltb-false, le-ltb}
use Rattle.std.proofs.Common.{Ok, Err}
use Rattle.little_endian.specs.Words.{over}
use Rattle.little_endian.proofs.Bytes.{Below}
use Rattle.mesh_record.specs.Mesh.{Mesh, vertex_count, record_bytes, Good}
use Rattle.mesh_record.specs.Refusals.{Checked, none, opening, contents}
use Rattle.mesh_checks.specs.Reading.{mesh_in, refusal_in}
use Rattle.mesh_read.specs.Reading.{Read, short, done, copied, copied_unless, reading}
use Rattle.mesh_read.specs.Reading.{left as reading_left}
use Rattle.mesh_record.proofs.Passed.{some-cause, part-passed, opening-known, opening-passed, contents-known, contents-passed}
use Rattle.mesh_read.proofs.Copies.{copied-done, reading-passed}
use Rattle.mesh_round_trip.proofs.Records.{contents-sound, record-holds, record-accepted, accepted-good, accepted-again}
use Rattle.mesh_round_trip.proofs.FiniteBits.{Floats, floats-of-bits, bits-of-floats, bits_small}
use Rattle.mesh_write.specs.Writing.{mesh_of, fields_of, refusal_of, Written, left, answered, put, put_unless, writing}
use Rattle.mesh_write.proofs.Fields.{fields_of-passed, fields_of-known}
use Rattle.mesh_write.proofs.Meshes.{writing-passed}

-- ---- which meshes are written

-- A mesh of words that the writer does not refuse is good, and the version is 1;
pub unrefused-good : (version : ℕ) (m : Mesh) → Below 4294967296 m.coordinates → refusal_of version m ≡ none → (version ≡ 1) × Good m
unfolding refusal_of
unrefused-good version m small h =
    let parts = part-passed (opening version m.size m.numbering) _ h in
    let rest = part-passed (fields_of (length m.coordinates) (length m.indices)) (contents 28 m) parts.1 in
    let opened = opening-known version m.size m.numbering parts.0 in
    let fields = fields_of-known (length m.coordinates) (length m.indices) rest.0 in
    let sound = contents-known 28 m rest.1 in (
      opened.first-version,
      record {
        least = opened.least;
        most = opened.most;
        numbering-word = opened.numbering-word;
        coordinates-whole = fields.coordinates-whole;
        coordinates-words = small;
        coordinates-finite = sound.coordinates-finite;
        indices-whole = fields.indices-whole;
        indices-below = sound.indices-below;
        indices-word = omega (arith, fields.indices-word);
        offset_word = omega (arith, fields.offset_word);
      },
    )

-- and a good mesh is not refused.
pub good-unrefused : (m : Mesh) → Good m → refusal_of 1 m ≡ none
unfolding refusal_of
good-unrefused m good =
    let first = opening-passed 1 m.size m.numbering (record { first-version = refl; least = good.least; most = good.most; numbering-word = good.numbering-word }) in
    let second = fields_of-passed (length m.coordinates) (length m.indices) (record {
      coordinates-whole = good.coordinates-whole;
      indices-whole = good.indices-whole;
      indices-word = omega (arith, good.indices-word);
      offset_word = omega (arith, good.offset_word);
    }) in
    rw (first, second, contents-passed 28 m (contents-sound m good))

-- With the room for its record it is written.
pub good-written : (m : Mesh) → Good m → (out : List ℕ) → length (record_bytes m) ≤ length out
    → writing 1 m out ≡ left (answered 0 0 (length (record_bytes m))) (over (record_bytes m) out)
unfolding put
good-written m good out room =
    sym (writing-passed 1 m out (sym (good-unrefused m good))) ∙ rw (le-ltb (length out) (length (record_bytes m)) room)

-- ---- what is left after cause 0

-- what holds where the writer is done
pub record WrittenRecord (version : ℕ) (m : Mesh) (out : List ℕ) : Type 0 where
  pub unrefused : refusal_of version m ≡ none
  pub room : length (record_bytes m) ≤ length out
  pub written : writing version m out ≡ left (answered 0 0 (length (record_bytes m))) (over (record_bytes m) out)

module _ (version : ℕ) (m : Mesh) (out : List ℕ) where
  put-by : (b : Bool) → ltb (length out) (length (record_bytes m)) ≡ b
      → (cond b (left (answered 10 0 (length (record_bytes m))) out) (left (answered 0 0 (length (record_bytes m))) (over (record_bytes m) out))).answer.cause ≡ 0
      → (b ≡ false)
  put-by true e h = absurd (omega arith)
  put-by false e h = refl

  passed-by : (r : Checked) → (put_unless r m out).answer.cause ≡ 0 → r ≡ none
  passed-by (Ok x) h = refl
  passed-by (Err refusal) h = absurd (omega (arith, some-cause refusal))

  pub writing-done : (writing version m out).answer.cause ≡ 0 → WrittenRecord version m out
  unfolding writing put
  writing-done h =
      let passed = passed-by (refusal_of version m) h in
      let fitted = put-by (ltb (length out) (length (record_bytes m))) refl (subst (λ (r : Checked). (put_unless r m out).answer.cause ≡ 0) passed h) in
      record {
        unrefused = passed;
        room = ltb-false (length out) (length (record_bytes m)) fitted;
        written = rw (passed, fitted);
      }

-- ---- written, then read

-- Reading the bytes that were written, into buffers with the room, gives the mesh back: size, numbering, coordinates and indices.
module _ (version size numbering : ℕ) (coordinates : List Float) (indices out : List ℕ) (held : Floats coordinates)
    (cause : (writing version (mesh_of size numbering coordinates indices) out).answer.cause ≡ 0) where
  abbrev m : Mesh
  m = mesh_of size numbering coordinates indices

  abbrev w : Written
  w = writing version m out

  all : WrittenRecord version m out
  all = writing-done version m out cause

  pub written-good : Good (mesh_of size numbering coordinates indices)
  written-good = (unrefused-good version m (bits_small coordinates held) all.unrefused).1

  pub written-front : take w.answer.bytes w.out ≡ record_bytes (mesh_of size numbering coordinates indices)
  written-front = rw all.written (take-append_seam (record_bytes m) (drop (length (record_bytes m)) out))

  pub written_read : (floats : List Float) (words : List ℕ) → length coordinates ≤ length floats → length indices ≤ length words
      → reading (take (writing version (mesh_of size numbering coordinates indices) out).answer.bytes (writing version (mesh_of size numbering coordinates indices) out).out) floats words
      ≡ reading_left (record { cause = 0; size = size; numbering = numbering; place = 0; vertices = length coordinates / 3; indices = length indices })
      (over coordinates floats) (over indices words)
  written_read floats words room index-room =
      let few : length m.coordinates ≤ length floats = omega (arith, room, length-map coordinates (to_bits binary32)) in
      ap (λ (l : List ℕ). reading l floats words) written-front
      ∙ sym (reading-passed (record_bytes m) floats words (sym (record-accepted m written-good)))
      ∙ ap (λ (k : Mesh). copied k floats words) (record-holds m written-good)
      ∙ sym (copied-done m floats words few index-room)
      ∙ ap₂ (λ (k : ℕ) (l : List Float). reading_left (record { cause = 0; size = size; numbering = numbering; place = 0; vertices = k / 3; indices = length indices })
      (over l floats) (over indices words)) (length-map coordinates (to_bits binary32)) (floats-of-bits coordinates held)

-- ---- read, then written

-- what holds where the reader is done
pub record ReadRecord (bytes : List ℕ) (floats : List Float) (words : List ℕ) : Type 0 where
  pub accepted : refusal_in bytes ≡ none
  pub read : reading bytes floats words
      ≡ reading_left (done (mesh_in bytes)) (over (map (of_bits binary32) (mesh_in bytes).coordinates) floats) (over (mesh_in bytes).indices words)

module _ (bytes : List ℕ) (floats : List Float) (words : List ℕ) where
  abbrev read-mesh : Mesh
  read-mesh = mesh_in bytes

  abbrev done-read : Read
  done-read = reading_left (done (mesh_in bytes)) (over (map (of_bits binary32) (mesh_in bytes).coordinates) floats) (over (mesh_in bytes).indices words)

  abbrev few : Bool
  few = ltb (length floats) (length (mesh_in bytes).coordinates) || ltb (length words) (length (mesh_in bytes).indices)

  copied-by : (b : Bool) → (cond b (reading_left (short (mesh_in bytes)) floats words) done-read).answer.cause ≡ 0 → (b ≡ false)
  copied-by true h = absurd (omega arith)
  copied-by false h = refl

  accepted-by : (r : Checked) → (copied_unless r (mesh_in bytes) floats words).answer.cause ≡ 0 → r ≡ none
  accepted-by (Ok x) h = refl
  accepted-by (Err refusal) h = absurd (omega (arith, some-cause refusal))

  pub reading-done : (reading bytes floats words).answer.cause ≡ 0 → ReadRecord bytes floats words
  unfolding reading copied
  reading-done h =
      let passed = accepted-by (refusal_in bytes) h in
      let roomy = copied-by few (subst (λ (r : Checked). (copied_unless r (mesh_in bytes) floats words).answer.cause ≡ 0) passed h) in
      record { accepted = passed; read = rw (passed, roomy) }

-- An accepted record written again, from what the reader left, gives the same bytes.
module _ (bytes : List ℕ) (small : Below 256 bytes) (floats : List Float) (words out : List ℕ) (cause : (reading bytes floats words).answer.cause ≡ 0) where
  abbrev held-mesh : Mesh
  held-mesh = mesh_in bytes

  is_read : ReadRecord bytes floats words
  is_read = reading-done bytes floats words cause

  is-good : Good (mesh_in bytes)
  is-good = accepted-good bytes small is_read.accepted

  same-mesh : mesh_of held-mesh.size held-mesh.numbering (map (of_bits binary32) held-mesh.coordinates) held-mesh.indices ≡ held-mesh
  same-mesh =
      ap (λ (l : List ℕ). record { size = held-mesh.size; numbering = held-mesh.numbering; coordinates = l; indices = held-mesh.indices })
      (bits-of-floats held-mesh.coordinates is-good.coordinates-words is-good.coordinates-finite)

  abbrev again : Read → Mesh
  again r = mesh_of r.answer.size r.answer.numbering (take (3 * r.answer.vertices) r.coordinates) (take r.answer.indices r.indices)

  read_again : again (reading bytes floats words) ≡ held-mesh
  read_again =
      let front : take (3 * vertex_count held-mesh) (over (map (of_bits binary32) held-mesh.coordinates) floats) ≡ map (of_bits binary32) held-mesh.coordinates =
      take_at (map (of_bits binary32) held-mesh.coordinates) _ (3 * vertex_count held-mesh) (length-map held-mesh.coordinates (of_bits binary32) ∙ is-good.coordinates-whole) in
      ap again is_read.read
      ∙ ap₂ (λ (f : List Float) (l : List ℕ). mesh_of held-mesh.size held-mesh.numbering f l) front (take-append_seam held-mesh.indices (drop (length held-mesh.indices) words))
      ∙ same-mesh

  pub read-written : length bytes ≤ length out
      → writing 1 (mesh_of (reading bytes floats words).answer.size (reading bytes floats words).answer.numbering
      (take (3 * (reading bytes floats words).answer.vertices) (reading bytes floats words).coordinates) (take (reading bytes floats words).answer.indices (reading bytes floats words).indices)) out
      ≡ left (answered 0 0 (length bytes)) (over bytes out)
  read-written room =
      let same = accepted-again bytes small is_read.accepted in
      ap (λ (k : Mesh). writing 1 k out) read_again
      ∙ good-written held-mesh is-good out (omega (arith, room, ap length same))
      ∙ ap (λ (l : List ℕ). left (answered 0 0 (length l)) (over l out)) same

-- ---- refused

module _ (bytes : List ℕ) (floats : List Float) (words : List ℕ) where
  short-unchanged : (short-of-room : Bool) → let r = cond short-of-room (reading_left (short (mesh_in bytes)) floats words) (done-read bytes floats words) in
      (r.answer.cause ≡ 0 → ⊥) → (r.coordinates ≡ floats) × (r.indices ≡ words)
  short-unchanged true h = (refl, refl)
  short-unchanged false h = absurd (h refl)

  refused-unchanged : (first : Checked) → let r = copied_unless first (mesh_in bytes) floats words in
      (r.answer.cause ≡ 0 → ⊥) → (r.coordinates ≡ floats) × (r.indices ≡ words)
  unfolding copied
  refused-unchanged (Ok x) h = short-unchanged (few bytes floats words) h
  refused-unchanged (Err refusal) h = (refl, refl)

-- After any cause but 0 the reader has left both buffers as they were,
pub read-unchanged : (bytes : List ℕ) (floats : List Float) (words : List ℕ) → ((reading bytes floats words).answer.cause ≡ 0 → ⊥)
    → ((reading bytes floats words).coordinates ≡ floats) × ((reading bytes floats words).indices ≡ words)
unfolding reading
read-unchanged bytes floats words = refused-unchanged bytes floats words (refusal_in bytes)

module _ (m : Mesh) (out : List ℕ) where
  unwritten-unchanged : (short-of-room : Bool)
      → let w = cond short-of-room (left (answered 10 0 (length (record_bytes m))) out) (left (answered 0 0 (length (record_bytes m))) (over (record_bytes m) out)) in
      (w.answer.cause ≡ 0 → ⊥) → w.out ≡ out
  unwritten-unchanged true h = refl
  unwritten-unchanged false h = absurd (h refl)

  unput-unchanged : (first : Checked) → ((put_unless first m out).answer.cause ≡ 0 → ⊥) → (put_unless first m out).out ≡ out
  unfolding put
  unput-unchanged (Ok x) h = unwritten-unchanged (ltb (length out) (length (record_bytes m))) h
  unput-unchanged (Err refusal) h = refl

-- and the writer the output.
pub write-unchanged : (version : ℕ) (m : Mesh) (out : List ℕ) → ((writing version m out).answer.cause ≡ 0 → ⊥) → (writing version m out).out ≡ out
unfolding writing
write-unchanged version m out = unput-unchanged m out (refusal_of version m)
