-- `store_three`: three stores.
use lib.ListN.{length-set}
use native.Mathlib.Omega.{arith}
use Rattle.lent_mesh.proofs.store_three.Goals as goal

pub bounds-indices-at-2 : goal.bounds-indices-at-2
bounds-indices-at-2 c = simp length-set (omega arith)
