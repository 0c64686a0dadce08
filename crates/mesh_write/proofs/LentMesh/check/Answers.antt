-- `check`: what the fields showed bounds the places of the contents.
use mathlib.Core.Path.{sym}
use native.Mathlib.Omega.{arith}
use lib.ListN.{length}
use Rattle.mesh_write.proofs.Fields.{fields_of-known}
use Rattle.mesh_write.proofs.LentMesh.check.Goals as goal

pub check_contents-requires : goal.check_contents-requires
check_contents-requires c =
    let fits = fields_of-known (length c.args.self.now.coordinates.now) (length c.args.self.now.indices.now) (sym c.in_ok-check_fields.ensures) in
    (omega (arith, fits.coordinates-whole, fits.offset_word), omega (arith, fits.indices-word))
