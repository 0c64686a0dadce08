-- `coordinate`: the three folds, and the mask of as many bits as there are levels.
use mathlib.Core.Path.{◌≡◌, ap, ◌∙◌}
use Prim.Native.Nat.{ℕ, ◌-◌, ◌*◌, ◌%◌, ◌^◌, ◌≤◌}
use native.Mathlib.Nat.{zero-add}
use native.Mathlib.Omega.{arith}
use lib.Pow.{pow_pos}
use lib.Bits.{bit_and}
use Rattle.morton_sums.proofs.Digits.{power-shl}
use Rattle.morton_cells.proofs.Packing.{folded}
use Rattle.morton_cells.proofs.Thirds.{nines, folds}
use Rattle.morton_cells.proofs.Level.coordinate.Goals as goal

one_shl : (level : ℕ) → level ≤ 21 → 1 * 2 ^ level % 2 ^ 64 ≡ 2 ^ level
one_shl level h = power-shl 0 level (omega arith) ∙ ap (λ (x : ℕ). 2 ^ x) (zero-add level)

pub overflow_sub-length_mask : goal.overflow_sub-length_mask
overflow_sub-length_mask c = omega (arith, one_shl c.args.self.number c.args.self.within, pow_pos c.args.self.number)

pub returns : goal.returns
returns c =
    let bits = c.args.bits in
    let level = c.args.self.number in
    ap (λ (x : ℕ). bit_and (folded 512 (nines bits)) (x - 1)) (one_shl level c.args.self.within) ∙ folds bits level c.args.self.within
