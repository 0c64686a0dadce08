-- `make_new`: a cell of class 0 can be made by its marks, and any by its list, with the same edges.
use mathlib.Core.Path.{sym, ap, ◌∙◌}
use mathlib.Core.List.{List}
use Prim.Native.Nat.{ℕ, ◌+◌}
use native.Mathlib.Omega.{arith}
use lib.ListN.{get_or}
use lib.Dec.{eqb}
use borrow.Author.Tests.{eqb-true}
use Rattle.walk.proofs.Bools.{and_left}
use Rattle.walk_models.specs.Owned.{make_edge}
use Rattle.packed_tables.specs.Packed.{row_words}
use Rattle.lent_mesh.specs.Stored.{store_at}
use Rattle.joined_slots.specs.OneCell.{each}
use Rattle.inner_cells.specs.Ranked.{hand}
use Rattle.joined_edges.proofs.CellWords.{new-words}
use Rattle.joined_edges.proofs.InnerCells.{inner-marks, inner_made}
use Rattle.joined_edges.proofs.make_new.Goals as goal

pub invariant_of-list : goal.invariant_of-list
invariant_of-list c = record { known = (new-words _ _ _ (omega arith) c.requires.class_bound c.word-word.ensures).new-known }

-- by marks
pub returns-then-class-dense-clause-by_index : goal.returns-then-class-dense-clause-by_index
returns-then-class-dense-clause-by_index c l written =
    let args = c.args in
    let cell = args.here.cell in
    let zero-class = eqb-true args.class 0 (and_left (eqb args.class 0) _ c.if-class-dense.true) in
    inner_made cell.samples.now cell.size.n cell.x cell.y cell.z args.class args.case (get_or row_words args.case 0) c.word-word.result
    cell.of_grid.in-x cell.of_grid.in-y (new-words _ _ _ (omega arith) c.requires.class_bound c.word-word.ensures)
    (inner-marks args.class args.case c.word-word.result zero-class (omega arith) c.word-word.ensures)
    args.work.now l _ args.vertices.now _ args.made written _ (c.make_inner.ensures.by_index l written) c.make_inner.ensures.made_value

pub returns-then-class-dense-clause-made_value : goal.returns-then-class-dense-clause-made_value
returns-then-class-dense-clause-made_value c =
    let w = new-words _ _ _ (omega arith) c.requires.class_bound c.word-word.ensures in
    c.make_inner.ensures.made_value ∙ ap (λ (k : ℕ). c.args.made + k) (sym w.new-count)

-- by the list
pub returns-else-class-dense-clause-by_index : goal.returns-else-class-dense-clause-by_index
returns-else-class-dense-clause-by_index c l written =
    let args = c.args in
    let cell = args.here.cell in
    let w = new-words _ _ _ (omega arith) c.requires.class_bound c.word-word.ensures in
    c.make_all.ensures.by_index l written
    ∙ ap (λ (es : List ℕ). each (make_edge (store_at cell.size.n cell.samples.now) cell.size.n cell.z cell.y cell.x) es (hand args.work.now args.vertices.now l args.made written)) w.new-edges

pub returns-else-class-dense-clause-made_value : goal.returns-else-class-dense-clause-made_value
returns-else-class-dense-clause-made_value c =
    let w = new-words _ _ _ (omega arith) c.requires.class_bound c.word-word.ensures in
    c.make_all.ensures.made_value ∙ ap (λ (k : ℕ). c.args.made + k) (sym w.new-count)
