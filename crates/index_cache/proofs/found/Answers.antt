-- `found`: seven reads.
use Rattle.index_cache.proofs.Places.{found-read}
use Rattle.index_cache.proofs.found.Goals as goal

pub returns : goal.returns
returns c = found-read _ _ _ _ _ _ _ c.args.work.now c.layer_place-a.ensures.0 c.row_place-b.ensures.0
