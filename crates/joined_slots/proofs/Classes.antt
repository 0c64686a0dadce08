-- The class of a cell from that of its row: only the row's first cell has x = 0.
use mathlib.Core.Path.{◌≡◌, ◌∙◌}
use Prim.Native.Nat.{ℕ, ◌+◌}
use native.Mathlib.Omega.{arith}
use borrow.Author.Tests.{eq-eqb, ne_eqb}
use Rattle.joined_slots.specs.OneCell.{class_of}

pub class_first : (class x y z : ℕ) → x ≡ 0 → class ≡ class_of 1 y z → class + 1 ≡ class_of x y z
class_first class x y z h e = rw (eq-eqb x 0 h) (omega arith)

pub class_later : (class x y z : ℕ) → (x ≡ 0 → ⊥) → class ≡ class_of 1 y z → class ≡ class_of x y z
class_later class x y z h e = e ∙ rw (ne_eqb x 0 h)
