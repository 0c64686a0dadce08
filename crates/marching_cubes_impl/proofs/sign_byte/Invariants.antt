-- `sign_byte`: after i turns the byte is the sign byte of the first i values.
use Rattle.std.proofs.Common.{◌≡◌, ◌≤◌, take}
use Rattle.marching_cubes_impl.specs.Signs.{sign_byte}
use Rattle.marching_cubes_impl.proofs.sign_byte.Given as goal

abbrev pub invariant-loop-i : goal.invariant-loop-i
invariant-loop-i l = (l.i ≤ 8) × (l.signs ≡ sign_byte (take l.i l.fn.values))
