-- `put_index`: a store past the end changes nothing.
use mathlib.Core.Path.{sym}
use lib.Seq.{set_out}
use Rattle.lent_mesh.proofs.put_index.Goals as goal

pub returns-else-at-indices : goal.returns-else-at-indices
returns-else-at-indices c = sym (set_out _ _ _ c.if-at-indices.false)
