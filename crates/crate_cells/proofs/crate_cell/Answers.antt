-- `crate_cell`: the row's edges, visited from what `found` has, in either of the two ways.
use mathlib.Core.Path.{refl, sym, ◌∙◌}
use native.Mathlib.Omega.{arith}
use lib.Dec.{ltb}
use lib.ListN.{get_or}
use Rattle.walk.proofs.Bools.{and_right}
use Rattle.packed_tables.proofs.Words.{in_threes}
use Rattle.lent_mesh.specs.Grid.{inside_of}
use Rattle.crate_cells.proofs.RowEdges.{case-lt, row-edges, row-edges-all, row_count}
use Rattle.regular_cells.proofs.RegularTest.{regular-of}
use Rattle.crate_cells.proofs.HeldCell.{held-cell}
use Rattle.crate_cells.proofs.crate_cell.Goals as goal

-- a regular cell
pub regular_visits-requires-clause-regular_of : goal.regular_visits-requires-clause-regular_of
regular_visits-requires-clause-regular_of c =
    let given = c.requires.rows_value in
    let byte = c.from-index.ensures ∙ given.2 in
    let cell = c.args.cell in
    let regular = sym c.is_regular.ensures ∙ and_right (ltb 0 c.args.counts.made) c.is_regular.result c.if-counts-is_regular.true in
    regular-of c.from-index.result _ _ cell.size.n cell.x cell.y c.args.parity.layer c.args.parity.row c.args.work.now _
    c.args.rows.now c.args.regulars.now (case-lt _ _ _ _ c.from-index.result byte) given.0 given.1 refl refl
    c.found-current.ensures regular

pub returns-then-counts-is_regular-clause-result_after : goal.returns-then-counts-is_regular-clause-result_after
returns-then-counts-is_regular-clause-result_after c =
    let args = c.args in
    let cell = args.cell in
    let parity = args.parity in
    let given = c.requires.rows_value in
    let byte = c.from-index.ensures ∙ given.2 in
    let rows = args.rows.now in
    let inside = inside_of cell.size.n cell.samples.now in
    held-cell cell.size.n cell.x cell.y parity.layer parity.row (omega (arith, cell.of_grid.in-x)) (omega (arith, cell.of_grid.in-y)) parity.layer_le parity.row_le
    cell.samples.now cell.z inside (in_threes (get_or rows c.from-index.result 0)) args.work.now c.found-current.result args.vertices.now args.indices.now args.counts _ _ _ _ c.regular_visits.result
    (row-edges inside cell.x cell.y cell.z c.from-index.result byte rows given.0)
    (row-edges-all inside cell.x cell.y cell.z c.from-index.result byte rows given.0) c.found-current.ensures c.regular_visits.ensures.result_after

pub returns-then-counts-is_regular-clause-written_bound : goal.returns-then-counts-is_regular-clause-written_bound
returns-then-counts-is_regular-clause-written_bound c =
    let given = c.requires.rows_value in
    let byte = c.from-index.ensures ∙ given.2 in
    omega (arith, c.regular_visits.ensures.written_value, row_count _ _ _ _ c.from-index.result byte c.args.rows.now given.0)

-- any other
pub invariant_of-edges : goal.invariant_of-edges
invariant_of-edges c =
    let given = c.requires.rows_value in
    let byte = c.from-index.ensures ∙ given.2 in
    record { known = row-edges-all _ _ _ _ c.from-index.result byte c.args.rows.now given.0 }

pub visit_all-requires-clause-written_fits : goal.visit_all-requires-clause-written_fits
visit_all-requires-clause-written_fits c =
    let given = c.requires.rows_value in
    let byte = c.from-index.ensures ∙ given.2 in
    omega (arith, row_count _ _ _ _ c.from-index.result byte c.args.rows.now given.0, c.requires.written_fits)

pub returns-clause-result_after : goal.returns-clause-result_after
returns-clause-result_after c =
    let args = c.args in
    let cell = args.cell in
    let parity = args.parity in
    let given = c.requires.rows_value in
    let byte = c.from-index.ensures ∙ given.2 in
    let rows = args.rows.now in
    let inside = inside_of cell.size.n cell.samples.now in
    held-cell cell.size.n cell.x cell.y parity.layer parity.row (omega (arith, cell.of_grid.in-x)) (omega (arith, cell.of_grid.in-y)) parity.layer_le parity.row_le
    cell.samples.now cell.z inside (in_threes (get_or rows c.from-index.result 0)) args.work.now c.found-current.result args.vertices.now args.indices.now args.counts _ _ _ _ c.visit_all.result
    (row-edges inside cell.x cell.y cell.z c.from-index.result byte rows given.0)
    (row-edges-all inside cell.x cell.y cell.z c.from-index.result byte rows given.0) c.found-current.ensures c.visit_all.ensures.result_after

pub returns-clause-written_bound : goal.returns-clause-written_bound
returns-clause-written_bound c =
    let given = c.requires.rows_value in
    let byte = c.from-index.ensures ∙ given.2 in
    omega (arith, c.visit_all.ensures.written_value, row_count _ _ _ _ c.from-index.result byte c.args.rows.now given.0)
