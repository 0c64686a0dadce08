-- The three demands, stated for what `extract` leaves: its contract is that answer and lent memory are `outcome` of what it was handed. Each has the
-- sentence of the safety file above it.
use mathlib.Core.Path.{◌≡◌, refl, sym, ◌∙◌}
use mathlib.Core.Bool.{Bool, true, false, cond, not, ◌||◌}
use mathlib.Core.List.{List, [], map}
use Prim.Native.Nat.{ℕ, ◌+◌, ◌*◌, ◌≤◌, ◌<◌}
use native.Mathlib.Omega.{arith}
use lib.Dec.{eqb, ltb, lit≤}
use lib.ListN.{length, get_or, replicate}
use lib.Ieee.{Float, nan}
use Rattle.marching_cubes_impl.specs.Sample.{good}
use Rattle.walk.specs.Cache.{fresh}
use Rattle.walk.specs.Numbering.{mesh, joined, crate}
use Rattle.walk.proofs.Counts.{no_visit}
use Rattle.positions.specs.Crossing.{GoodGrid}
use Rattle.walk_positions.proofs.Nearness.{NearVisit, vertices-near}
use Rattle.lent_mesh.specs.Grid.{inside_of, position_at, floats_of}
use Rattle.sample_check.specs.Samples.{lowest_bad}
use Rattle.sample_check.proofs.Samples.{good-any_bad-none, any_bad-none-length}
use Rattle.outcome.specs.Outcome.{Outcome, work_room, Surface, surface, surface_of, over, refused, meshed, filled, outcome}
use Rattle.passes.specs.Accepted.{Accepted}
use Rattle.marching_cubes.proofs.ByCause.{accepted, room-enough}

-- Any two permitted outcomes are equal.
pub outcomes-equal : (n numbering : ℕ) (samples : List Float) (work : List ℕ) (vertices : List Float) (indices : List ℕ) (first second : Outcome)
    → first ≡ outcome n numbering samples work vertices indices → second ≡ outcome n numbering samples work vertices indices → first ≡ second
outcomes-equal n numbering samples work vertices indices first second e f = e ∙ sym f

-- what holds of both sides of a test holds of what it picks
either : (P : Outcome → Type 0) (b : Bool) (x y : Outcome) → P x → P y → P (cond b x y)
either P true x y p q = p
either P false x y p q = q

module _ (n numbering : ℕ) (samples : List Float) (work : List ℕ) (vertices : List Float) (indices : List ℕ) where
  abbrev o : Outcome
  o = outcome n numbering samples work vertices indices

  -- a property of the refusals, of causes 6 and 7, and of a mesh that is written, is one of every outcome
  module _ (P : Outcome → Type 0)
      (of-refusal : (cause place : ℕ) → 1 ≤ cause → cause ≤ 5 → P (refused n numbering samples work vertices indices cause place))
      (of_room : (cause : ℕ) → 6 ≤ cause → cause ≤ 7 → P (meshed n numbering samples work vertices indices cause (surface_of n numbering samples) vertices indices))
      (of-done : P (meshed n numbering samples work vertices indices 0 (surface_of n numbering samples)
      (over (floats_of (map (position_at n samples) (surface_of n numbering samples).made)) vertices) (over (surface_of n numbering samples).indices indices))) where
    every-outcome : P o
    unfolding outcome filled
    every-outcome =
        either P (ltb n 2 || ltb 128 n) _ _ (of-refusal 1 0 (lit≤ tt) (lit≤ tt))
        (either P (ltb 1 numbering) _ _ (of-refusal 2 0 (lit≤ tt) (lit≤ tt))
        (either P (not (eqb (length samples) (n * n * (n + 1)))) _ _ (of-refusal 3 0 (lit≤ tt) (lit≤ tt))
        (either P (ltb (length work) (work_room n)) _ _ (of-refusal 4 0 (lit≤ tt) (lit≤ tt))
        (either P (ltb (lowest_bad samples) (length samples)) _ _ (of-refusal 5 (lowest_bad samples) (lit≤ tt) (lit≤ tt))
        (either P (ltb (length vertices) (3 * length (surface_of n numbering samples).made)) _ _ (of_room 6 (lit≤ tt) (lit≤ tt))
        (either P (ltb (length indices) (length (surface_of n numbering samples).indices)) _ _ (of_room 7 (lit≤ tt) (lit≤ tt)) of-done))))))

  -- ---- demand 1: "Every public call ends with an answer, whatever it is handed. Each bad input has its number; output buffers then hold what they held;
  -- no count is reported but the room needed."

  -- The answer is one of document 01's causes.
  pub demand-1-answered : o.answer.cause ≤ 7
  demand-1-answered = every-outcome (λ p. p.answer.cause ≤ 7) (λ c q l h. omega arith) (λ c l h. h) (lit≤ tt)

  -- After any cause but 0 both outputs hold what they held.
  pub demand-1-outputs : 1 ≤ o.answer.cause → (o.vertices ≡ vertices) × (o.indices ≡ indices)
  demand-1-outputs =
      every-outcome (λ p. 1 ≤ p.answer.cause → (p.vertices ≡ vertices) × (p.indices ≡ indices))
      (λ c q l h t. (refl, refl)) (λ c l h t. (refl, refl)) (λ t. absurd (omega arith))

  -- After causes 1 to 5 nothing lent has changed, and no count is reported.
  pub demand-1-nothing : 1 ≤ o.answer.cause → o.answer.cause ≤ 5 → (o.work ≡ work) × (o.answer.vertices ≡ 0) × (o.answer.indices ≡ 0)
  demand-1-nothing =
      every-outcome (λ p. 1 ≤ p.answer.cause → p.answer.cause ≤ 5 → (p.work ≡ work) × (p.answer.vertices ≡ 0) × (p.answer.indices ≡ 0))
      (λ c q l h t u. (refl, refl, refl)) (λ c l h t u. absurd (omega arith)) (λ t u. absurd (omega arith))

  -- After causes 6 and 7 the counts are the room needed, and after 0 what is written; the working memory that the size asks for is zero then.
  pub demand-1-room : (1 ≤ o.answer.cause → 6 ≤ o.answer.cause)
      → (o.work ≡ over (replicate (work_room n) 0) work) × (o.answer.vertices ≡ length (surface_of n numbering samples).made) × (o.answer.indices ≡ length (surface_of n numbering samples).indices)
  demand-1-room =
      every-outcome (λ p. (1 ≤ p.answer.cause → 6 ≤ p.answer.cause)
      → (p.work ≡ over (replicate (work_room n) 0) work) × (p.answer.vertices ≡ length (surface_of n numbering samples).made) × (p.answer.indices ≡ length (surface_of n numbering samples).indices))
      (λ c q l h t. absurd (let u = t l in omega arith)) (λ c l h t. (refl, refl, refl)) (λ t. (refl, refl, refl))

  -- ---- demand 2: "On finite samples of magnitude at most 2^126, crate numbering gives the Rust's own vertices and indices, and joined gives one vertex for
  -- each grid edge whose ends differ in sign, in order of first use. Neither is refused but for a listed cause."

  -- A grid of good samples that passes causes 1 to 4, with room for its mesh, is meshed: the outputs begin with the vertices of the surface, three floats each, and its indices.
  pub demand-2 : Accepted n samples work → numbering ≤ 1 → ((i : ℕ) → i < length samples → good (get_or samples i nan) ≡ true)
      → 3 * length (surface_of n numbering samples).made ≤ length vertices → length (surface_of n numbering samples).indices ≤ length indices
      → o ≡ meshed n numbering samples work vertices indices 0 (surface_of n numbering samples)
      (over (floats_of (map (position_at n samples) (surface_of n numbering samples).made)) vertices) (over (surface_of n numbering samples).indices indices)
  demand-2 a known all-good rv ri =
      let none : lowest_bad samples ≡ length samples = any_bad-none-length samples (good-any_bad-none samples all-good) in
      accepted n numbering samples work vertices indices a.least a.most known a.samples-whole a.work-room (omega arith)
      ∙ room-enough n numbering samples work vertices indices (surface_of n numbering samples) rv ri

-- The surface of numbering 0 is the mesh of the index cache, call for call,
pub demand-2-crate : (n : ℕ) (samples : List Float)
    → surface_of n 0 samples ≡ record { made = (mesh (crate n) fresh (inside_of n samples) n n).made; indices = (mesh (crate n) fresh (inside_of n samples) n n).indices }
unfolding surface_of
demand-2-crate n samples = refl

-- and that of numbering 1 the mesh by first use, of which the crate walk proves `joined_Once`, `joined-exactly` and `joined-count`.
pub demand-2-joined : (n : ℕ) (samples : List Float)
    → surface_of n 1 samples ≡ record { made = (mesh joined [] (inside_of n samples) n n).made; indices = (mesh joined [] (inside_of n samples) n n).indices }
unfolding surface_of
demand-2-joined n samples = refl

-- ---- demand 3: "Each coordinate of each vertex lies within 2^-20 of the exact crossing, worked out in whole numbers."

module _ (n : ℕ) (samples : List Float) (grid : GoodGrid n (n + 1) samples) where
  abbrev Near : Surface → Type 0
  Near s = (i : ℕ) → i < length s.made → NearVisit n samples (get_or s.made i no_visit) (get_or (map (position_at n samples) s.made) i (position_at n samples no_visit))

  near-either : (b : Bool) → Near (cond b (surface (mesh (crate n) fresh (inside_of n samples) n n)) (surface (mesh joined [] (inside_of n samples) n n)))
  near-either true = vertices-near n n samples grid (crate n) fresh
  near-either false = vertices-near n n samples grid joined []

  -- Of the grid edge at whose visit the vertex was made, in either numbering: vertex i is near the exact crossing.
  pub demand-3 : (numbering i : ℕ) → i < length (surface_of n numbering samples).made
      → NearVisit n samples (get_or (surface_of n numbering samples).made i no_visit)
      (get_or (map (position_at n samples) (surface_of n numbering samples).made) i (position_at n samples no_visit))
  unfolding surface_of
  demand-3 numbering = near-either (eqb numbering 0)
