-- What `extract` answers and leaves in all memory lent to it: document 01, "Causes, numbers and what is left behind". Held to W1 to W11 by
-- crates/cases, and to the Rust by the oracle.
use Rattle.std.specs.Prelude.{cond, not, ◌||◌, List, [], ◌++◌, map, ℕ, ◌+◌, ◌*◌, eqb, ltb, length, drop, replicate, Float}
use Rattle.walk.specs.Walk.{Visit}
use Rattle.walk.specs.Cache.{fresh}
use Rattle.walk.specs.Numbering.{Mesh, mesh, joined, crate}
use Rattle.sample_check.specs.Samples.{lowest_bad}
use Rattle.lent_mesh.specs.Grid.{inside_of, position_at, floats_of}
use Rattle.outcome.specs.declared.Answer.{Answer}

-- everything that the call leaves
pub record Outcome : Type 0 where
  pub answer : Answer
  pub work : List ℕ
  pub vertices : List Float
  pub indices : List ℕ

abbrev pub left : Answer → List ℕ → List Float → List ℕ → Outcome
left answer work vertices indices = record { answer = answer; work = work; vertices = vertices; indices = indices }

-- the words of working memory that a size asks for
abbrev pub work_room : ℕ → ℕ
work_room n = 8 * (n * n) + 6 * n

-- the visits that made the vertices, and the indices
pub record Surface : Type 0 where
  pub made : List Visit
  pub indices : List ℕ

abbrev pub surface : {C : Type 0} → Mesh C → Surface
surface m = record { made = m.made; indices = m.indices }

-- of a grid of n layers of cells, in the crate numbering or in the joined
unfoldable pub surface_of : ℕ → ℕ → List Float → Surface
surface_of n numbering samples =
    cond (eqb numbering 0) (surface (mesh (crate n) fresh (inside_of n samples) n n)) (surface (mesh joined [] (inside_of n samples) n n))

-- written from the start, the rest unchanged
abbrev pub over : {A : Type 0} → List A → List A → List A
over new old = new ++ drop (length new) old

module _ (n numbering : ℕ) (samples : List Float) (work : List ℕ) (vertices : List Float) (indices : List ℕ) where
  -- nothing lent has changed
  abbrev pub refused : ℕ → ℕ → Outcome
  refused cause place =
      record { answer = record { cause = cause; place = place; vertices = 0; indices = 0 }; work = work; vertices = vertices; indices = indices }

  -- the working memory that the size asks for is zero
  abbrev pub meshed : ℕ → Surface → List Float → List ℕ → Outcome
  meshed cause s floats list =
      record {
        answer = record { cause = cause; place = 0; vertices = length s.made; indices = length s.indices };
        work = over (replicate (work_room n) 0) work;
        vertices = floats;
        indices = list;
      }

  -- causes 6 and 7 leave the outputs; done, they hold the mesh
  unfoldable pub filled : Surface → Outcome
  filled s =
      cond (ltb (length vertices) (3 * length s.made)) (meshed 6 s vertices indices)
      (cond (ltb (length indices) (length s.indices)) (meshed 7 s vertices indices)
      (meshed 0 s (over (floats_of (map (position_at n samples) s.made)) vertices) (over s.indices indices)))

  -- the causes in order, each given where no earlier one is
  unfoldable pub outcome : Outcome
  outcome =
      cond (ltb n 2 || ltb 128 n) (refused 1 0)
      (cond (ltb 1 numbering) (refused 2 0)
      (cond (not (eqb (length samples) (n * n * (n + 1)))) (refused 3 0)
      (cond (ltb (length work) (work_room n)) (refused 4 0)
      (cond (ltb (lowest_bad samples) (length samples)) (refused 5 (lowest_bad samples))
      (filled (surface_of n numbering samples))))))
