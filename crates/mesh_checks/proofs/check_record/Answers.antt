-- `check_record`: what the fields showed lets the contents be read.
use mathlib.Core.Path.{sym}
use Rattle.mesh_checks.proofs.Passed.{fields_in-known}
use Rattle.mesh_checks.proofs.check_record.Goals as goal

pub check_contents-requires : goal.check_contents-requires
check_contents-requires c = (fields_in-known c.args.bytes.now (sym c.in_ok-check_fields.ensures)).whole
