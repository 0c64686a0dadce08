-- `next` of the edges of a word: none is left, or the lowest four bits are the first.
use Prim.Native.Nat.{◌-◌, ◌/◌}
use native.Mathlib.Omega.{arith}
use Rattle.packed_tables.proofs.PackedEdges.{unpacked-suc, unpacked-none, unpacked-length, edges-rest}
use Rattle.packed_tables.proofs.edges.PackedEdgesIterator.next.Goals as goal

pub returns-then-self-eq0-clause-steps : goal.returns-then-self-eq0-clause-steps
returns-then-self-eq0-clause-steps c =
    (unpacked-none _ _ c.if-self-eq0.true, unpacked-none _ _ c.if-self-eq0.true)

pub invariant_of-self : goal.invariant_of-self
invariant_of-self c = record { known = edges-rest _ _ (omega (arith, c.if-self-eq0.false)) c.args.self.now.known }

pub returns-clause-steps : goal.returns-clause-steps
returns-clause-steps c = unpacked-suc _ _ (omega (arith, c.if-self-eq0.false))

pub returns-clause-goes : goal.returns-clause-goes
returns-clause-goes c =
    let edges = c.args.self.now in
    record {
      on = λ h. (tt, tt, omega (arith, unpacked-length edges.count edges.word, unpacked-length (edges.count - 1) (edges.word / 16), c.if-self-eq0.false));
      keeps = tt;
      rests = λ h. tt;
    }
