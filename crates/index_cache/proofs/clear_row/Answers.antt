-- `clear_row`: after x turns the first x places are cleared.
use mathlib.Core.Path.{refl}
use Rattle.walk.specs.Walk.{times}
use Rattle.walk_models.specs.CacheMemory.{clear_row}
use Rattle.index_cache.proofs.Places.{clear_row-suc}
use Rattle.index_cache.proofs.clear_row.Goals as goal

pub loop-x-init : goal.loop-x-init
unfolding clear_row times
loop-x-init c = refl

pub loop-x-preserved : goal.loop-x-preserved
loop-x-preserved c = clear_row-suc _ _ _ _ _ _ _ c.row_place.ensures.0 c.loop-x.invariant c.clear_three.ensures
