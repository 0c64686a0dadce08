-- What the extraction answers to the program, told by the answer's cause: the text that the definition has for the grid. `list_grid` cites
-- `own-refused`, `own-mesh` and `own_room`.
use mathlib.Core.Path.{◌≡◌, refl, sym, ap, ◌∙◌, subst}
use mathlib.Core.Logic.{⊎_elim}
use mathlib.Core.List.{List, ◌++◌, map}
use Prim.Native.Nat.{ℕ, ◌+◌, ◌*◌, ◌/◌, ◌≤◌, ◌<◌}
use native.Mathlib.Nat.{mul-le-mul}
use native.Mathlib.Omega.{arith}
use lib.ListN.{length, take, drop, replicate, length-map}
use lib.Seq.{take-append_seam}
use lib.Ieee.{Float, binary32, of_bits}
use borrow.Author.Tests.{lt-ltb, le-ltb}
use Rattle.marching_cubes_tables.proofs.Tests.{lt-or-ge}
use Rattle.numbering.specs.declared.Numbering.{Numbering}
use Rattle.numbering.specs.declared.Numbering.TheVariants.{Crate, Joined}
use Rattle.numbering.specs.Word.{word_of}
use Rattle.sample_check.specs.Samples.{lowest_bad}
use Rattle.lent_mesh.specs.Grid.{position_at, floats_of}
use Rattle.lent_mesh.proofs.Floats.{floats_of-length}
use Rattle.outcome.specs.Outcome.{Outcome, work_room, Surface, surface_of, over, refused, meshed, outcome}
use Rattle.marching_cubes.proofs.ByCause.{sample-bad, accepted, room-enough}
use Rattle.listing_runs.specs.Runs.{lines_of, vertex_line_at, face_line_at}
use Rattle.listing_runs.proofs.Lines.{vertex_lines-front, face_lines-front}
use Rattle.listing_text.specs.Lines.{first_line, refused_line, mesh_text}
use Rattle.listing.specs.Listing.{grid_text}
use Rattle.listing.proofs.Room.{made-le, indices-le}

-- the lines of a mesh are those of longer buffers that it stands at the front of
mesh_text-front : (size numbering made : ℕ) (floats more : List Float) (indices others : List ℕ) → length floats ≡ 3 * made
    → mesh_text size numbering floats indices
    ≡ first_line size numbering made (length indices) ++ lines_of made (vertex_line_at (floats ++ more)) ++ lines_of (length indices / 3) (face_line_at (indices ++ others))
mesh_text-front size numbering made floats more indices others e =
    let count : length floats / 3 ≡ made = omega arith in
    rw (count, vertex_lines-front floats more made (omega arith), face_lines-front indices others (length indices / 3) (omega arith)) refl

-- what an outcome is to the text: the mesh stands at the front of its buffers
pub record Lists (n numbering : ℕ) (samples : List Float) (o : Outcome) : Type 0 where
  pub made : length (take (3 * o.answer.vertices) o.vertices) ≡ 3 * o.answer.vertices
  pub written : length (take o.answer.indices o.indices) ≡ o.answer.indices
  pub fewer : o.answer.vertices ≤ o.answer.indices
  pub most : o.answer.indices ≤ 3780
  pub text : grid_text n numbering samples ≡ mesh_text n numbering (take (3 * o.answer.vertices) o.vertices) (take o.answer.indices o.indices)

module _ (n numbering : ℕ) (samples : List Float) (work : List ℕ) (vertices : List Float) (indices : List ℕ)
    (least : 2 ≤ n) (most : n ≤ 7) (known : numbering ≤ 1) (whole : length samples ≡ n * n * (n + 1))
    (work-room : work_room n ≤ length work) (vertex-room : 11340 ≤ length vertices) (index-room : 3780 ≤ length indices) where
  abbrev mesh : Surface
  mesh = surface_of n numbering samples

  abbrev floats : List Float
  floats = floats_of (map (position_at n samples) mesh.made)

  floats-length : length floats ≡ 3 * length mesh.made
  floats-length = floats_of-length (map (position_at n samples) mesh.made) ∙ ap (λ (k : ℕ). 3 * k) (length-map mesh.made (position_at n samples))

  abbrev filled_outcome : Outcome
  filled_outcome = meshed n numbering samples work vertices indices 0 mesh (over floats vertices) (over mesh.indices indices)

  module _ (o : Outcome) (e : o ≡ outcome n numbering samples work vertices indices) where
    bad : lowest_bad samples < length samples → o ≡ refused n numbering samples work vertices indices 5 (lowest_bad samples)
    bad h = e ∙ sample-bad n numbering samples work vertices indices least (omega arith) known whole work-room h

    good : length samples ≤ lowest_bad samples → o ≡ filled_outcome
    good h =
        let m = made-le n numbering samples in
        let i = indices-le n numbering samples most in
        e ∙ accepted n numbering samples work vertices indices least (omega arith) known whole work-room h
        ∙ room-enough n numbering samples work vertices indices mesh (omega arith) (omega arith)

    refused-text : (o.answer.cause ≡ 0 → ⊥) → grid_text n numbering samples ≡ refused_line o.answer.cause o.answer.place
    refused-text some =
        ⊎_elim
        (λ (h : lowest_bad samples < length samples).
        let cause : o.answer.cause ≡ 5 = ap (λ (p : Outcome). p.answer.cause) (bad h) in
        let place : o.answer.place ≡ lowest_bad samples = ap (λ (p : Outcome). p.answer.place) (bad h) in
        rw (lt-ltb (lowest_bad samples) (length samples) h, cause, place) refl)
        (λ (h : length samples ≤ lowest_bad samples). absurd (some (ap (λ (p : Outcome). p.answer.cause) (good h))))
        (lt-or-ge (lowest_bad samples) (length samples))

    mesh-text : o.answer.cause ≡ 0 → Lists n numbering samples o
    mesh-text none =
        ⊎_elim
        (λ (h : lowest_bad samples < length samples).
        let cause : o.answer.cause ≡ 5 = ap (λ (p : Outcome). p.answer.cause) (bad h) in absurd (omega (arith, none, cause)))
        (λ (h : length samples ≤ lowest_bad samples).
        let vertices-front : take (3 * length mesh.made) (over floats vertices) ≡ floats =
        rw (← floats-length) (take-append_seam floats (drop (length floats) vertices)) in
        let indices-front : take (length mesh.indices) (over mesh.indices indices) ≡ mesh.indices =
        take-append_seam mesh.indices (drop (length mesh.indices) indices) in
        let most-indices = indices-le n numbering samples most in
        subst (Lists n numbering samples) (sym (good h))
        (record {
          made = ap length vertices-front ∙ floats-length;
          written = ap length indices-front;
          fewer = made-le n numbering samples;
          most = most-indices;
          text = rw (le-ltb (lowest_bad samples) (length samples) h, vertices-front, indices-front) refl;
        }))
        (lt-or-ge (lowest_bad samples) (length samples))

-- ---- the program's own buffers

word_of-le : (numbering : Numbering) → word_of numbering ≤ 1
word_of-le Crate = omega arith
word_of-le Joined = omega arith

module _ (n : ℕ) (numbering : Numbering) (samples : List Float) (least : 2 ≤ n) (most : n ≤ 7) (whole : length samples ≡ n * n * (n + 1))
    (word : ℕ) (is : word ≡ word_of numbering)
    (o : Outcome) (e : o ≡ outcome n word samples (replicate 434 0) (replicate 11340 (of_bits binary32 0)) (replicate 3780 0)) where
  work-enough : work_room n ≤ 434
  work-enough = let square = mul-le-mul most most in omega arith

  known : o ≡ outcome n (word_of numbering) samples (replicate 434 0) (replicate 11340 (of_bits binary32 0)) (replicate 3780 0)
  known = rw (← is) e

  pub own-refused : (o.answer.cause ≡ 0 → ⊥) → grid_text n (word_of numbering) samples ≡ refused_line o.answer.cause o.answer.place
  own-refused =
      refused-text n (word_of numbering) samples (replicate 434 0) (replicate 11340 (of_bits binary32 0)) (replicate 3780 0) least most (word_of-le numbering) whole work-enough
      (omega arith) (omega arith) o known

  pub own-mesh : o.answer.cause ≡ 0 → Lists n (word_of numbering) samples o
  own-mesh =
      mesh-text n (word_of numbering) samples (replicate 434 0) (replicate 11340 (of_bits binary32 0)) (replicate 3780 0) least most (word_of-le numbering) whole work-enough
      (omega arith) (omega arith) o known

  pub own_room : o.answer.cause ≡ 0 → (o.answer.vertices ≤ o.answer.indices) × (o.answer.indices ≤ 3780)
  own_room none = let mesh = own-mesh none in (mesh.fewer, mesh.most)
