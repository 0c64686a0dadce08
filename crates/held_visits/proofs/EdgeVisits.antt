-- Visits of some edges, one turn of a loop after the other: what is still to do from here is what was to do from the start. For `visit_all`.
use mathlib.Core.Path.{◌≡◌, sym, ap, ◌∙◌}
use mathlib.Core.List.{List, [], ◌∷◌}
use Prim.Native.Nat.{ℕ}
use lib.Ieee.{Float}
use Rattle.walk.proofs.OwnedCells.{fold, times-fold}
use Rattle.walk_models.specs.Lent.{Lent}
use Rattle.walk_models.specs.CacheMemory.{CacheMemory}
use Rattle.held_visits.specs.CellMemory.{held_visit, held_edges}

-- from the state s the edges `left` are still to be visited, which leads to where all edges lead from the state t
module _ (n : ℕ) (samples : List Float) (x y z : ℕ) where
  abbrev pub ToGo : List ℕ → Lent CacheMemory (List Float) → List ℕ → Lent CacheMemory (List Float) → Type 0
  ToGo left s all t = fold (held_visit n samples x y z) left s ≡ fold (held_visit n samples x y z) all t

  pub turn-taken : (e : ℕ) (left rest all : List ℕ) (s u t : Lent CacheMemory (List Float))
      → left ≡ e ∷ rest
      → u ≡ held_visit n samples x y z e s
      → ToGo left s all t
      → ToGo rest u all t
  unfolding fold
  turn-taken e left rest all s u t h q inv =
      ap (fold (held_visit n samples x y z) rest) q
      ∙ sym (ap (λ (es : List ℕ). fold (held_visit n samples x y z) es s) h)
      ∙ inv

  pub all-taken : (left all : List ℕ) (s t : Lent CacheMemory (List Float)) → left ≡ [] → ToGo left s all t → s ≡ held_edges n samples x y z all t
  unfolding fold held_edges
  all-taken left all s t h inv =
      sym (ap (λ (es : List ℕ). fold (held_visit n samples x y z) es s) h)
      ∙ inv
      ∙ sym (times-fold (held_visit n samples x y z) 0 all t)
