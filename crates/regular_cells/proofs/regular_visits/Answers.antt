-- `regular_visits`: what is new by the word, then the row.
use Prim.Native.Nat.{◌/◌, ◌%◌, ◌^◌}
use native.Mathlib.Omega.{arith}
use lib.ListN.{get_or}
use Rattle.std.proofs.Common.{rules}
use Rattle.packed_tables.proofs.Words.{in_threes}
use Rattle.regular_cells.proofs.NamedRow.{row-held}
use Rattle.regular_cells.proofs.RegularRow.{row-known, row-most, row-regular, row-fewer, row-absent}
use Rattle.regular_cells.proofs.RegularVisits.{regular-visited}
use Rattle.regular_cells.proofs.regular_visits.Goals as goal

pub invariant_of-triangles : goal.invariant_of-triangles
invariant_of-triangles c = record { known = row-known c.args.regular c.args.word c.args.current.now c.requires.regular_of }

pub put_numbers-written-requires-clause-place_fits : goal.put_numbers-written-requires-clause-place_fits
put_numbers-written-requires-clause-place_fits c = omega (arith, row-most c.args.regular c.args.word c.args.current.now c.requires.regular_of, c.requires.made_nonzero.1)

pub invariant_of-result : goal.invariant_of-result
invariant_of-result c =
    let fewer = row-fewer c.args.regular c.args.word c.args.current.now c.requires.regular_of in
    record { ordered = omega (arith, c.put_numbers-written.ensures.place_value, fewer, c.args.counts.ordered) }

pub returns-clause-result_after : goal.returns-clause-result_after
returns-clause-result_after c =
    let args = c.args in
    let cell = args.cell in
    let row = c.requires.regular_of in
    let regular = args.regular in
    let word = args.word in
    let current = args.current.now in
    let held = c.make_regular.new.current in
    regular-visited cell.size.n cell.samples.now cell.x cell.y cell.z (omega (arith, cell.of_grid.in-x)) (omega (arith, cell.of_grid.in-y)) regular (in_threes word)
    args.parity.layer args.parity.row args.work.now current args.vertices.now args.indices.now args.counts _ _ _ _ c.put_numbers-written.result
    (row-regular regular word current row) (row-known regular word current row) (row-absent regular word current row) c.requires.made_nonzero.0 row.twelve
    c.make_regular.ensures
    (row-held _ args.parity.layer args.parity.row held _ _ (word / 2 ^ 60) (word % 2 ^ 60) args.indices.now _ args.counts.written c.put_numbers-written.result
    (c.put_numbers-written.ensures.by_number (λ e. get_or held e 0) (λ e k below told. search rules))
    c.put_numbers-written.ensures.place_value)
