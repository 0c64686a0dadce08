-- `coordinates`: after i turns the first i are worked out.
use mathlib.Core.Path.{◌≡◌}
use Prim.Native.Nat.{ℕ, ◌<◌}
use lib.ListN.{length, get_or}
use lib.Ieee.{nan}
use Rattle.positions.specs.Position.{step_of, corner_of}
use Rattle.lent_mesh.proofs.coordinates.Given as goal

abbrev pub invariant-loop-i : goal.invariant-loop-i
invariant-loop-i l = (length l.all ≡ 129) × ((k : ℕ) → k < l.i → get_or l.all k nan ≡ corner_of k (step_of l.fn.size.n))
