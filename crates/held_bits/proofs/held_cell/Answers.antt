-- `held_cell`: what is named and not held is put, and counted.
use mathlib.Core.Path.{refl}
use Prim.Native.Nat.{◌<◌}
use native.Mathlib.Omega.{arith}
use borrow.Author.Rules.{rules}
use Rattle.held_bits.proofs.CellSteps.{counts-grown, cell-done}
use Rattle.held_bits.proofs.held_cell.Goals as goal

pub overflow_add-result-2 : goal.overflow_add-result-2
overflow_add-result-2 c =
    let args = c.args in
    let table = c.requires.names_value in
    let case_lt : args.case < 256 = search rules in
    let grown =
    counts-grown args.names.now args.work.now args.case _ _ _ _ _ _ args.counts.written table case_lt
    c.named_set.ensures c.held_set.ensures c.new_set-new.ensures c.first_made-first.ensures in
    omega (arith, grown, args.counts.ordered, c.requires.written_fits)

pub invariant_of-result : goal.invariant_of-result
invariant_of-result c =
    let args = c.args in
    let table = c.requires.names_value in
    let case_lt : args.case < 256 = search rules in
    let grown =
    counts-grown args.names.now args.work.now args.case _ _ _ _ _ _ args.counts.written table case_lt
    c.named_set.ensures c.held_set.ensures c.new_set-new.ensures c.first_made-first.ensures in
    record { ordered = omega (arith, grown, args.counts.ordered) }

pub returns-clause-result_after : goal.returns-clause-result_after
returns-clause-result_after c =
    let args = c.args in
    let table = c.requires.names_value in
    let case_lt : args.case < 256 = search rules in
    cell-done args.names.now args.work.now args.case _ _ _ _ _ _ args.counts.written table case_lt
    c.named_set.ensures c.held_set.ensures c.new_set-new.ensures c.first_made-first.ensures
    args.n args.parity.layer args.parity.row args.x args.y args.counts.made _ _ _ _ _ _
    c.layer_word.ensures.0 refl c.row_word.ensures.0 refl c.layer_word-2.ensures.0 c.put_set.ensures c.row_word-2.ensures.0 c.put_set-2.ensures
