-- `center`: the same on each axis, from the word shifted to where the axis begins.
use Rattle.std.proofs.Common.{◌≡◌, ℕ, ◌/◌, Float, Result, Ok, refl, sym, ◌∙◌, arith}
use Rattle.morton.specs.declared.BadKey.{BadKey}
use Rattle.morton.specs.Answer.{level_of}
use Rattle.morton_sums.specs.Interleaved.{X, Y, Z, thirds}
use Rattle.morton_cells.specs.Cell.{center_at, center_of}
use Rattle.morton_cells.specs.declared.Vec3.{Vec3}
use Rattle.morton_cells.proofs.Thirds.{center-on-axis}
use Rattle.morton_cells.proofs.center.Goals as goal

joined : (key level : ℕ) (x y z : Float) → level_of key ≡ Ok level → x ≡ center_at (thirds level key) level → y ≡ center_at (thirds level (key / 2)) level
    → z ≡ center_at (thirds level (key / 4)) level → ◌≡◌ {A = Result Vec3 BadKey} (Ok (record { x = x; y = y; z = z })) (center_of key)
joined key level x y z told p q r =
    let on_x = center-on-axis X key key level (omega arith) in
    let on_y = center-on-axis Y key (key / 2) level refl in
    let on_z = center-on-axis Z key (key / 4) level refl in
    grind (arith, on_x, on_y, on_z)

pub returns : goal.returns
returns c = joined _ _ _ _ _ (sym c.level.ensures ∙ c.in_ok-level.was) c.center_on-x.ensures c.center_on-y.ensures c.center_on-z.ensures
