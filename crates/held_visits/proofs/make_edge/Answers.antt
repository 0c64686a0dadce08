-- `make_edge`: a number for the cache, one for `current`, and a vertex.
use Rattle.held_visits.proofs.HeldVisit.{edge-numbered}
use Rattle.held_visits.proofs.make_edge.Goals as goal

pub returns : goal.returns
returns c = edge-numbered _ _ _ _ _ _ _ _ _ _ _ _ _ _ c.put.ensures c.put_vertex.ensures
