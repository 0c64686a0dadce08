-- `marching_cubes_tables::triangle`: the lent list is the rows of specs/, one after the other.
use mathlib.Core.Path.{◌≡◌, ◌∙◌, ap}
use mathlib.Core.List.{List}
use Prim.Native.Nat.{◌+◌, ◌*◌}
use lib.ListN.{get_or}
use lib.IntN.{ℤ, pos}
use mir.Syntax.{w8}
use mir.ValLaws.{to_z-of_z}
use Rattle.marching_cubes_tables.specs.Tables.{triangle_connection, flat, triangle_table}
use Rattle.marching_cubes_tables.proofs.Rows.{flat-at}
use borrow.Author.Rules.{rules}
use Rattle.marching_cubes_tables.proofs.triangle.Goals as goal

pub returns : goal.returns
unfolding triangle_table
returns c =
    let a = c.args in
    let e : a.table.now ≡ flat triangle_connection = c.requires.0 in
    to_z-of_z w8 (get_or a.table.now (16 * a.s + a.k) (pos 0)) (record { sfits = c.result-1.given })
    ∙ (ap (λ (l : List ℤ). get_or l (16 * a.s + a.k) (pos 0)) e
    ∙ flat-at 16 (pos 0) triangle_connection tt a.s a.k (search rules) (search rules))
