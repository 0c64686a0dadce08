-- `write_mesh`: what passed has counts that fit their fields.
use mathlib.Core.Path.{sym}
use Rattle.mesh_write.proofs.Meshes.{refusal_of-fits}
use Rattle.mesh_write.proofs.write_mesh.Goals as goal

pub put-requires : goal.put-requires
put-requires c = refusal_of-fits _ c.args.mesh.now.size c.args.mesh.now.numbering c.args.mesh.now.coordinates.now c.args.mesh.now.indices.now (sym c.in-Ok.ensures)
