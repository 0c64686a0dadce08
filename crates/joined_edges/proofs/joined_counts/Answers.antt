-- `joined_counts`: the cell's word in `news` has the lengths of both lists, so the row's own word is not read.
use mathlib.Core.Path.{refl, sym, ap}
use Prim.Native.Nat.{ℕ, ◌+◌}
use native.Mathlib.Omega.{arith}
use Rattle.joined_edges.proofs.CellWords.{new-words, counts-grown, cell-counts}
use Rattle.joined_edges.proofs.joined_counts.Goals as goal

pub overflow_add-result-2 : goal.overflow_add-result-2
overflow_add-result-2 c =
    let w = new-words _ _ _ (omega arith) c.requires.class_bound c.word-fresh.ensures in
    omega (arith, w.same-indices, w.row-most, c.requires.written_fits)

pub invariant_of-result : goal.invariant_of-result
invariant_of-result c =
    let counts = c.args.counts in
    let w = new-words _ _ _ (omega arith) c.requires.class_bound c.word-fresh.ensures in
    record {
      ordered = (counts-grown _ _ _ _ counts.made counts.written _ _ w counts.ordered (ap (λ (k : ℕ). counts.made + k) (sym w.new-count)) (ap (λ (k : ℕ). counts.written + k) w.same-indices)).0;
    }

pub returns-clause-result_value : goal.returns-clause-result_value
returns-clause-result_value c g x y z es ec =
    let w = new-words _ _ _ (omega arith) c.requires.class_bound c.word-fresh.ensures in
    cell-counts g x y z _ _ _ _ es ec w _ _ refl (ap (λ (k : ℕ). c.args.counts.written + k) w.same-indices)

pub returns-clause-written_bound : goal.returns-clause-written_bound
returns-clause-written_bound c =
    let w = new-words _ _ _ (omega arith) c.requires.class_bound c.word-fresh.ensures in
    omega (arith, w.same-indices, w.row-most)
