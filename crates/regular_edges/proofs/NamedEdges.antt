-- The steps by which the new edges of a regular cell are made: an edge that the word names or does not, and the six of them.
use mathlib.Core.Path.{◌≡◌, ap, ◌∙◌}
use mathlib.Core.List.{List}
use Prim.Native.Nat.{ℕ, ◌+◌}
use lib.Ieee.{Float}
use borrow.Author.Tests.{eq-eqb, ne_eqb}
use Rattle.marching_cubes_tables.specs.Rule.{bit_at}
use Rattle.walk_models.specs.Lent.{Lent}
use Rattle.walk_models.specs.CacheMemory.{CacheMemory}
use Rattle.packed_tables.specs.Regular.{rank_of}
use Rattle.held_visits.specs.CellMemory.{number_edge}
use Rattle.regular_edges.specs.RegularEdges.{named_edge, regular_edges}

abbrev State : Type 0
State = Lent CacheMemory (List Float)

module _ (n : ℕ) (samples : List Float) (x y z regular made : ℕ) where
  pub named-there : (e : ℕ) (s t : State) → bit_at regular e ≡ 1 → t ≡ number_edge n samples x y z e (made + rank_of regular e) s
      → t ≡ named_edge n samples x y z regular made e s
  unfolding named_edge
  named-there e s t h q = q ∙ rw (eq-eqb (bit_at regular e) 1 h)

  pub named-absent : (e : ℕ) (s : State) → (bit_at regular e ≡ 1 → ⊥) → s ≡ named_edge n samples x y z regular made e s
  unfolding named_edge
  named-absent e s h = rw (ne_eqb (bit_at regular e) 1 h)

  abbrev step : ℕ → State → State
  step = named_edge n samples x y z regular made

  -- one after the other
  pub six-named : (s a b c d e f : State) → a ≡ step 0 s → b ≡ step 5 a → c ≡ step 6 b → d ≡ step 7 c → e ≡ step 10 d → f ≡ step 11 e
      → f ≡ regular_edges n samples x y z regular made s
  unfolding regular_edges
  six-named s a b c d e f ea eb ec ed ee ef =
      ef ∙ ap (step 11) (ee ∙ ap (step 10) (ed ∙ ap (step 7) (ec ∙ ap (step 6) (eb ∙ ap (step 5) ea))))
