-- `next` of the triangles of a word: none is left, or the lowest twelve bits are the first.
use Prim.Native.Nat.{◌-◌, ◌/◌}
use native.Mathlib.Omega.{arith}
use Rattle.packed_tables.proofs.PackedEdges.{triangles-suc, triangles-none, triangles-length, three-edges}
use Rattle.packed_tables.proofs.edges.PackedTrianglesIterator.next.Goals as goal

pub returns-then-self-eq0-clause-steps : goal.returns-then-self-eq0-clause-steps
returns-then-self-eq0-clause-steps c =
    (triangles-none _ _ c.if-self-eq0.true, triangles-none _ _ c.if-self-eq0.true)

pub invariant_of-self : goal.invariant_of-self
invariant_of-self c = record { known = (three-edges _ _ (omega (arith, c.if-self-eq0.false)) c.args.self.now.known).3 }

pub returns-clause-steps : goal.returns-clause-steps
returns-clause-steps c = triangles-suc _ _ (omega (arith, c.if-self-eq0.false))

pub returns-clause-goes : goal.returns-clause-goes
returns-clause-goes c =
    let list = c.args.self.now in
    record {
      on = λ h. (tt, tt, omega (arith, triangles-length list.count list.word, triangles-length (list.count - 1) (list.word / 16 / 16 / 16), c.if-self-eq0.false));
      keeps = tt;
      rests = λ h. tt;
    }
