-- What `extract` leaves after cause 0 is a good mesh: the writer takes it, and the record read back is that mesh. It rests on what is known of the
-- surface: finite coordinates (demand 3), indices below V, counts that fit.
use mathlib.Core.Path.{◌≡◌, refl, sym, ap, ap₂, ◌∙◌, subst}
use mathlib.Core.Bool.{Bool, true, false, cond, not, ◌||◌}
use mathlib.Core.List.{List, [], ◌∷◌, map}
use Prim.Native.Nat.{ℕ, zero, suc, ◌+◌, ◌-◌, ◌*◌, ◌/◌, ◌%◌, ◌≤◌, ◌<◌}
use native.Mathlib.Nat.{mul-le-mul}
use native.Mathlib.Omega.{arith}
use lib.Dec.{T, eqb, ltb}
use lib.ListN.{length, get_or, take, drop, length-map, get_or-map}
use lib.Seq.{take-append_seam, take_at}
use lib.Ieee.{Float, nan, inf, fin, binary32, fits, to_bits}
use lib.Ieee.Fits.{add-fits}
use borrow.Author.Tests.{ltb-false, le-ltb, eqb-true, not-false}
use Rattle.marching_cubes_impl.specs.declared.vertex.Vertex.{Vertex}
use Rattle.marching_cubes_impl.specs.Vertex.{between}
use Rattle.positions.specs.Position.{position_of}
use Rattle.positions.specs.Crossing.{finite_plus, GoodGrid}
use Rattle.walk.specs.Walk.{Visit}
use Rattle.walk.specs.Cache.{fresh}
use Rattle.walk.specs.Numbering.{mesh, joined, crate}
use Rattle.walk.proofs.Counts.{no_visit}
use Rattle.walk.proofs.Theorems.{index-threes, counts-bound, joined-indices, crate-indices}
use Rattle.lent_mesh.specs.Grid.{inside_of, position_at, floats_of}
use Rattle.lent_mesh.proofs.Floats.{floats_of-length}
use Rattle.sample_check.specs.Samples.{lowest_bad}
use Rattle.sample_check.proofs.Samples.{any_bad-lowest_bad, any_bad-none-good}
use Rattle.outcome.specs.declared.Answer.{Answer}
use Rattle.outcome.specs.Outcome.{Outcome, Surface, surface, surface_of, work_room, over, refused, meshed, filled, outcome}
use Rattle.outcome.specs.Outcome.{left as outcome_left}
use Rattle.marching_cubes.proofs.ByCause.{accepted, room-enough}
use Rattle.marching_cubes.proofs.Demands.{demand-3}
use Rattle.mesh_record.specs.Mesh.{Mesh, vertex_count, record_bytes, Good}
use Rattle.mesh_record.specs.Refusals.{none}
use Rattle.mesh_checks.specs.Reading.{mesh_in}
use Rattle.mesh_read.specs.Reading.{reading}
use Rattle.mesh_read.specs.Reading.{left as reading_left}
use Rattle.mesh_record.proofs.Passed.{neither_left, neither_right}
use Rattle.mesh_write.specs.Writing.{mesh_of, refusal_of, Written, writing}
use Rattle.mesh_round_trip.proofs.FiniteBits.{number, Floats, bits_small, bits-finite}
use Rattle.mesh_round_trip.proofs.Records.{record-holds}
use Rattle.mesh_round_trip.proofs.ReadBack.{good-unrefused, good-written, written_read}

-- ---- what passed, where the cause is 0

past : (cause : ℕ) (test : Bool) (o p : Outcome) → o.answer.cause ≡ suc cause → (cond test o p).answer.cause ≡ 0 → (test ≡ false) × (p.answer.cause ≡ 0)
past cause true o p e h = absurd (let z : suc cause ≡ 0 = sym e ∙ h in omega arith)
past cause false o p e h = (refl, h)

module _ (n numbering : ℕ) (samples : List Float) (work : List ℕ) (vertices : List Float) (indices : List ℕ) where
  abbrev s : Surface
  s = surface_of n numbering samples

  pub record Done : Type 0 where
    pub least : 2 ≤ n
    pub most : n ≤ 128
    pub known : numbering ≤ 1
    pub whole : length samples ≡ n * n * (n + 1)
    pub work-room : work_room n ≤ length work
    pub none-bad : length samples ≤ lowest_bad samples
    pub vertex-room : 3 * length (surface_of n numbering samples).made ≤ length vertices
    pub index-room : length (surface_of n numbering samples).indices ≤ length indices

  outcome-passed : (outcome n numbering samples work vertices indices).answer.cause ≡ 0 → Done
  unfolding outcome filled
  outcome-passed h =
      let refusal = refused n numbering samples work vertices indices in
      let sizes = past 0 (ltb n 2 || ltb 128 n) (refusal 1 0) _ refl h in
      let word = past 1 (ltb 1 numbering) (refusal 2 0) _ refl sizes.1 in
      let count = past 2 (not (eqb (length samples) (n * n * (n + 1)))) (refusal 3 0) _ refl word.1 in
      let memory = past 3 (ltb (length work) (work_room n)) (refusal 4 0) _ refl count.1 in
      let bad = past 4 (ltb (lowest_bad samples) (length samples)) (refusal 5 (lowest_bad samples)) _ refl memory.1 in
      let room = past 5 (ltb (length vertices) (3 * length s.made)) (meshed n numbering samples work vertices indices 6 s vertices indices) _ refl bad.1 in
      let index-room = past 6 (ltb (length indices) (length s.indices)) (meshed n numbering samples work vertices indices 7 s vertices indices) _ refl room.1 in
      record {
        least = ltb-false n 2 (neither_left (ltb n 2) (ltb 128 n) sizes.0);
        most = ltb-false 128 n (neither_right (ltb n 2) (ltb 128 n) sizes.0);
        known = ltb-false 1 numbering word.0;
        whole = eqb-true (length samples) (n * n * (n + 1)) (not-false _ count.0);
        work-room = ltb-false (length work) (work_room n) memory.0;
        none-bad = ltb-false (lowest_bad samples) (length samples) bad.0;
        vertex-room = ltb-false (length vertices) (3 * length s.made) room.0;
        index-room = ltb-false (length indices) (length s.indices) index-room.0;
      }

-- ---- the surface of a good grid

module _ (P : Float → Type 0) (d : Vertex) where
  floats-each : (ps : List Vertex) → ((i : ℕ) → i < length ps → P (get_or ps i d).x × P (get_or ps i d).y × P (get_or ps i d).z)
      → (k : ℕ) → k < length (floats_of ps) → P (get_or (floats_of ps) k nan)
  unfolding floats_of
  floats-each [] h k within = absurd (omega arith)
  floats-each (p ∷ ps) h zero within = (h 0 (omega arith)).0
  floats-each (p ∷ ps) h (suc zero) within = (h 0 (omega arith)).1
  floats-each (p ∷ ps) h (suc (suc zero)) within = (h 0 (omega arith)).2
  floats-each (p ∷ ps) h (suc (suc (suc k))) within = floats-each ps (λ i w. h (suc i) (omega arith)) k (omega arith)

plus-number : (x : Float) → T (finite_plus x) → number x ≡ true
plus-number nan h = absurd h
plus-number (inf s) h = absurd h
plus-number (fin true m e) h = absurd h
plus-number (fin false m e) h = refl

module _ (n : ℕ) (samples : List Float) (v : Visit) where
  position-fits : T (fits binary32 (position_at n samples v).x) × T (fits binary32 (position_at n samples v).y) × T (fits binary32 (position_at n samples v).z)
  unfolding position_at position_of between
  position-fits = (add-fits binary32 _ _, add-fits binary32 _ _, add-fits binary32 _ _)

-- what the indices of a surface of size n are known to be
record Listed (n : ℕ) (s : Surface) : Type 0 where
  threes : length s.indices % 3 ≡ 0
  vertices-le : length s.made ≤ length s.indices
  indices-le : length s.indices ≤ 15 * (n * (n - 1) * (n - 1))
  indices-below : (i : ℕ) → i < length s.indices → get_or s.indices i 0 < length s.made

surface-listed : (n numbering : ℕ) (samples : List Float) → Listed n (surface_of n numbering samples)
unfolding surface_of
surface-listed n numbering samples = either (eqb numbering 0)
  where
    either : (b : Bool) → Listed n (cond b (surface (mesh (crate n) fresh (inside_of n samples) n n)) (surface (mesh joined [] (inside_of n samples) n n)))
    either true =
        let g = inside_of n samples in
        let bound = counts-bound (crate n) fresh g n n in
        record { threes = index-threes (crate n) fresh g n n; vertices-le = bound.0; indices-le = bound.1; indices-below = crate-indices g n n }
    either false =
        let g = inside_of n samples in
        let bound = counts-bound joined [] g n n in
        record { threes = index-threes joined [] g n n; vertices-le = bound.0; indices-le = bound.1; indices-below = joined-indices g n n }

indices-few : (n i : ℕ) → n ≤ 128 → i ≤ 15 * (n * (n - 1) * (n - 1)) → i ≤ 30968160
indices-few n i most h =
    let less : n - 1 ≤ 127 = omega arith in
    let product : n * (n - 1) * (n - 1) ≤ 128 * 127 * 127 = mul-le-mul (mul-le-mul most less) less in
    omega arith

module _ (n numbering : ℕ) (samples : List Float) (held : Floats samples) (work : List ℕ) (vertices : List Float) (indices : List ℕ)
    (done : Done n numbering samples work vertices indices) where
  abbrev made : List Visit
  made = (surface_of n numbering samples).made

  abbrev floats : List Float
  floats = floats_of (map (position_at n samples) (surface_of n numbering samples).made)

  abbrev list : List ℕ
  list = (surface_of n numbering samples).indices

  grid : GoodGrid n (n + 1) samples
  grid =
      let none = any_bad-lowest_bad samples ∙ le-ltb (lowest_bad samples) (length samples) done.none-bad in
      record {
        least = done.least;
        most = omega (arith, done.most);
        layers-most = omega arith;
        whole = done.whole;
        all_fit = held;
        all-good = λ i within. subst T (sym (any_bad-none-good samples none i within)) tt;
      }

  floats-length : length floats ≡ 3 * length made
  floats-length = floats_of-length (map (position_at n samples) made) ∙ ap (λ (k : ℕ). 3 * k) (length-map made (position_at n samples))

  abbrev no_vertex : Vertex
  no_vertex = position_at n samples no_visit

  floats-fit : Floats floats
  floats-fit =
      floats-each (λ x. T (fits binary32 x)) no_vertex (map (position_at n samples) made)
      (λ i within. subst (λ (p : Vertex). T (fits binary32 p.x) × T (fits binary32 p.y) × T (fits binary32 p.z))
      (sym (get_or-map (position_at n samples) made i no_visit)) (position-fits n samples (get_or made i no_visit)))

  floats-numbers : (i : ℕ) → i < length floats → number (get_or floats i nan) ≡ true
  floats-numbers =
      floats-each (λ x. number x ≡ true) no_vertex (map (position_at n samples) made)
      (λ i within.
      let near = demand-3 n samples grid numbering i (omega (arith, within, length-map made (position_at n samples))) in
      let p = get_or (map (position_at n samples) made) i no_vertex in
      (plus-number p.x near.near-x.number, plus-number p.y near.near-y.number, plus-number p.z near.near-z.number))

  count : length (map (to_bits binary32) floats) ≡ 3 * length made
  count = length-map floats (to_bits binary32) ∙ floats-length

  third : (k l : ℕ) → k ≡ 3 * l → k / 3 ≡ l
  third k l h = omega arith

  vertex-count : vertex_count (mesh_of n numbering floats list) ≡ length made
  vertex-count = third (length (map (to_bits binary32) floats)) (length made) count

  surface-good : Good (mesh_of n numbering floats list)
  surface-good =
      let listed = surface-listed n numbering samples in
      let few : length list ≤ 30968160 = indices-few n (length list) done.most listed.indices-le in
      let some : length made ≤ 30968160 = omega (arith, few, listed.vertices-le) in
      record {
        least = done.least;
        most = done.most;
        numbering-word = done.known;
        coordinates-whole = count ∙ ap (λ (k : ℕ). 3 * k) (sym vertex-count);
        coordinates-words = bits_small floats floats-fit;
        coordinates-finite = bits-finite floats floats-fit floats-numbers;
        indices-whole = listed.threes;
        indices-below = λ i within. omega (arith, listed.indices-below i within, vertex-count);
        indices-word = omega (arith, few);
        offset_word = omega (arith, some, vertex-count);
      }

-- ---- what the call leaves

-- Where the promise of `extract` holds of an answer and the slices at exit, of f32 samples, and the cause is 0: the first 3 * V floats and I indices
-- are a good mesh, the writer does not refuse it, and its record holds it.
module _ (n numbering : ℕ) (samples : List Float) (held : Floats samples) (work : List ℕ) (vertices : List Float) (indices : List ℕ)
    (answer : Answer) (work-left : List ℕ) (vertices-left : List Float) (indices-left : List ℕ)
    (promise : outcome_left answer work-left vertices-left indices-left ≡ outcome n numbering samples work vertices indices)
    (cause : answer.cause ≡ 0) where
  all_done : Done n numbering samples work vertices indices
  all_done = outcome-passed n numbering samples work vertices indices (sym (ap (λ (o : Outcome). o.answer.cause) promise) ∙ cause)

  abbrev floats-left : List Float
  floats-left = take (3 * answer.vertices) vertices-left

  abbrev list_left : List ℕ
  list_left = take answer.indices indices-left

  all_left : outcome_left answer work-left vertices-left indices-left
      ≡ meshed n numbering samples work vertices indices 0 (surface_of n numbering samples)
      (over (floats_of (map (position_at n samples) (surface_of n numbering samples).made)) vertices) (over (surface_of n numbering samples).indices indices)
  all_left =
      let d = all_done in
      promise ∙ accepted n numbering samples work vertices indices d.least d.most d.known d.whole d.work-room d.none-bad
      ∙ room-enough n numbering samples work vertices indices (surface_of n numbering samples) d.vertex-room d.index-room

  front-is : floats_of (map (position_at n samples) (surface_of n numbering samples).made) ≡ floats-left
  front-is =
      let floats : List Float = floats_of (map (position_at n samples) (surface_of n numbering samples).made) in
      sym (ap (λ (o : Outcome). take (3 * o.answer.vertices) o.vertices) all_left
      ∙ take_at floats (drop (length floats) vertices) _ (floats-length n numbering samples held work vertices indices all_done))

  list-is : (surface_of n numbering samples).indices ≡ list_left
  list-is =
      let list = (surface_of n numbering samples).indices in
      sym (ap (λ (o : Outcome). take o.answer.indices o.indices) all_left ∙ take-append_seam list (drop (length list) indices))

  abbrev extracted : Mesh
  extracted = mesh_of n numbering floats-left list_left

  extracted-is : mesh_of n numbering (floats_of (map (position_at n samples) (surface_of n numbering samples).made)) (surface_of n numbering samples).indices ≡ extracted
  extracted-is = ap₂ (λ (f : List Float) (l : List ℕ). mesh_of n numbering f l) front-is list-is

  pub extract-good : Good (mesh_of n numbering (take (3 * answer.vertices) vertices-left) (take answer.indices indices-left))
  extract-good = subst Good extracted-is (surface-good n numbering samples held work vertices indices all_done)

  pub extract-written : refusal_of 1 (mesh_of n numbering (take (3 * answer.vertices) vertices-left) (take answer.indices indices-left)) ≡ none
  extract-written = good-unrefused extracted extract-good

  pub extract-read-back : mesh_in (record_bytes (mesh_of n numbering (take (3 * answer.vertices) vertices-left) (take answer.indices indices-left)))
      ≡ mesh_of n numbering (take (3 * answer.vertices) vertices-left) (take answer.indices indices-left)
  extract-read-back = record-holds extracted extract-good

  -- The two calls together: with room for the record, and then for the mesh, what was extracted is written, and read again as it was.
  pub extract-round-trip : (out : List ℕ) (floats : List Float) (words : List ℕ)
      → length (record_bytes (mesh_of n numbering (take (3 * answer.vertices) vertices-left) (take answer.indices indices-left))) ≤ length out
      → length (take (3 * answer.vertices) vertices-left) ≤ length floats → length (take answer.indices indices-left) ≤ length words
      → let w = writing 1 (mesh_of n numbering (take (3 * answer.vertices) vertices-left) (take answer.indices indices-left)) out in
      reading (take w.answer.bytes w.out) floats words
      ≡ reading_left (record { cause = 0; size = n; numbering = numbering; place = 0; vertices = length (take (3 * answer.vertices) vertices-left) / 3; indices = length (take answer.indices indices-left) })
      (over (take (3 * answer.vertices) vertices-left) floats) (over (take answer.indices indices-left) words)
  extract-round-trip out floats words room vertex-room index-room =
      written_read 1 n numbering floats-left list_left out
      (subst Floats front-is (floats-fit n numbering samples held work vertices indices all_done))
      (ap (λ (w : Written). w.answer.cause) (good-written extracted extract-good out room)) floats words vertex-room index-room
