-- `clear_row`: after x turns the first x places are cleared.
use mathlib.Core.Path.{◌≡◌}
use Rattle.walk_models.specs.CacheMemory.{clear_row}
use Rattle.index_cache.proofs.clear_row.Given as goal

abbrev pub invariant-loop-x : goal.invariant-loop-x
invariant-loop-x l = (l.work ≡ clear_row l.n l.row l.x l.initial.work)
