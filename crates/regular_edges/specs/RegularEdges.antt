-- The new edges of a regular cell as the code makes them: each with the number that its rank gives it. A private model, which the contracts of the walk's
-- functions cite.
use Rattle.std.specs.Prelude.{cond, List, ℕ, ◌+◌, Float}
use Rattle.walk_models.specs.Lent.{Lent}
use Rattle.walk_models.specs.CacheMemory.{CacheMemory}
use Rattle.packed_tables.specs.Regular.{names, rank_of}
use Rattle.held_visits.specs.CellMemory.{number_edge}

-- over lent lists, for a grid of size n and the cell (x, y, z)
module _ (n : ℕ) (samples : List Float) (x y z : ℕ) where
  -- if the word names it, by its rank from the number `made` on
  unfoldable pub named_edge : ℕ → ℕ → ℕ → Lent CacheMemory (List Float) → Lent CacheMemory (List Float)
  named_edge regular made e s = cond (names regular e) (number_edge n samples x y z e (made + rank_of regular e) s) s

  -- the edges that a regular cell can make, in their order
  unfoldable pub regular_edges : ℕ → ℕ → Lent CacheMemory (List Float) → Lent CacheMemory (List Float)
  regular_edges regular made s =
      let step : ℕ → Lent CacheMemory (List Float) → Lent CacheMemory (List Float) = named_edge regular made in
      step 11 (step 10 (step 7 (step 6 (step 5 (step 0 s)))))
