-- What `extract` has left where its answer is cause 0: the surface, written from the start of both outputs.
use mathlib.Core.Path.{◌≡◌, refl, subst}
use mathlib.Core.Bool.{Bool, true, false, cond, not, ◌&&◌, ◌||◌}
use mathlib.Core.List.{List, [], ◌∷◌, map}
use Prim.Native.Nat.{ℕ, ◌+◌, ◌*◌}
use lib.Dec.{T, eqb, ltb}
use lib.ListN.{length}
use lib.Ieee.{Float}
use Rattle.lent_mesh.specs.Grid.{position_at, floats_of}
use Rattle.sample_check.specs.Samples.{lowest_bad}
use Rattle.marching_cubes_tables.proofs.Tests.{both_left, both_right}
use Rattle.outcome.specs.Outcome.{Outcome, work_room, Surface, surface_of, over, refused, meshed, filled, outcome}

-- an outcome that is given where a test holds
record Guarded : Type 0 where
  test : Bool
  given : Outcome

abbrev guarded : Bool → Outcome → Guarded
guarded test given = record { test = test; given = given }

-- the first whose test holds, else the last
abbrev chain : List Guarded → Outcome → Outcome
chain [] last = last
chain (g ∷ gs) last = cond g.test g.given (chain gs last)

-- each has a cause
abbrev caused : List Guarded → Bool
caused [] = true
caused (g ∷ gs) = ltb 0 g.given.answer.cause && caused gs

-- an outcome with a cause is passed over
past : (test : Bool) (o p q : Outcome) → T (ltb 0 o.answer.cause) → (p.answer.cause ≡ 0 → p ≡ q)
    → (cond test o p).answer.cause ≡ 0 → cond test o p ≡ q
past true o p q e next h = absurd (subst (λ (k : ℕ). T (ltb 0 k)) h e)
past false o p q e next h = next h

chain-last : (gs : List Guarded) (last : Outcome) → T (caused gs) → (chain gs last).answer.cause ≡ 0 → chain gs last ≡ last
chain-last [] last t h = refl
chain-last (g ∷ gs) last t h =
    past g.test g.given (chain gs last) last (both_left (ltb 0 g.given.answer.cause) (caused gs) t)
    (chain-last gs last (both_right (ltb 0 g.given.answer.cause) (caused gs) t)) h

module _ (n numbering : ℕ) (samples : List Float) (work : List ℕ) (vertices : List Float) (indices : List ℕ) where
  abbrev pub done : Outcome
  done =
      let s : Surface = surface_of n numbering samples in
      meshed n numbering samples work vertices indices 0 s (over (floats_of (map (position_at n samples) s.made)) vertices) (over s.indices indices)

  pub outcome-done : (outcome n numbering samples work vertices indices).answer.cause ≡ 0 → outcome n numbering samples work vertices indices ≡ done
  unfolding outcome filled
  outcome-done =
      let s : Surface = surface_of n numbering samples in
      let refusal = refused n numbering samples work vertices indices in
      chain-last
      (guarded (ltb n 2 || ltb 128 n) (refusal 1 0)
      ∷ guarded (ltb 1 numbering) (refusal 2 0)
      ∷ guarded (not (eqb (length samples) (n * n * (n + 1)))) (refusal 3 0)
      ∷ guarded (ltb (length work) (work_room n)) (refusal 4 0)
      ∷ guarded (ltb (lowest_bad samples) (length samples)) (refusal 5 (lowest_bad samples))
      ∷ guarded (ltb (length vertices) (3 * length s.made)) (meshed n numbering samples work vertices indices 6 s vertices indices)
      ∷ guarded (ltb (length indices) (length s.indices)) (meshed n numbering samples work vertices indices 7 s vertices indices)
      ∷ [])
      done tt
