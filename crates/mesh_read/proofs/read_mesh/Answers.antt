-- `read_mesh`: what passed has the length that the copy asks for.
use mathlib.Core.Path.{sym}
use Rattle.mesh_checks.proofs.Passed.{refusal_in-known}
use Rattle.mesh_read.proofs.read_mesh.Goals as goal

pub copy_mesh-requires : goal.copy_mesh-requires
copy_mesh-requires c = (refusal_in-known c.args.bytes.now (sym c.in-Ok.ensures)).fields.whole
