-- `put`: a store to the layer, then one to the row.
use Rattle.index_cache.proofs.Places.{put-stored}
use Rattle.index_cache.proofs.put.Goals as goal

pub returns : goal.returns
returns c = put-stored _ _ _ _ _ _ _ _ _ _ _ _ c.layer_place.ensures.0 c.put_layer.ensures c.row_place.ensures.0 c.put_row.ensures
