-- `half_size_at`: the divisor is a power of two up to 2^22, and the quotient is exact.
use mathlib.Core.Path.{◌≡◌, sym, ap, ◌∙◌, subst}
use Prim.Native.Nat.{ℕ, suc, ◌*◌, ◌%◌, ◌^◌, ◌≤◌}
use native.Mathlib.Numerals.{one-add}
use native.Mathlib.Omega.{arith}
use lib.Dec.{T, le→leb}
use lib.IntN.{pos}
use lib.Pow.{pow_mono}
use lib.Ieee.{binary32, div, of_bits, of_int, in_float}
use Rattle.morton_sums.proofs.Digits.{power-shl}
use Rattle.morton_cells.proofs.Exact.{half-size-exact}
use Rattle.morton_cells.proofs.Level.half_size.Goals as goal

two-shl : (level : ℕ) → level ≤ 21 → 2 * 2 ^ level % 2 ^ 64 ≡ 2 ^ suc level
two-shl level h = power-shl 1 level (omega arith) ∙ ap (λ (x : ℕ). 2 ^ x) (one-add level)

whole : (level : ℕ) → level ≤ 21 → T (in_float binary32 (pos (2 * 2 ^ level % 2 ^ 64)))
unfolding in_float
whole level h = subst (λ (x : ℕ). T (in_float binary32 (pos x))) (sym (two-shl level h)) (le→leb (2 ^ suc level) (2 ^ 24) (pow_mono {j = 24} (omega arith)))

pub int_to_float-result : goal.int_to_float-result
int_to_float-result c = whole c.args.self.number c.args.self.within

pub returns : goal.returns
returns c =
    let level = c.args.self.number in
    ap (λ (x : ℕ). div binary32 (of_bits binary32 0x3F80_0000) (of_int binary32 (pos x))) (two-shl level c.args.self.within) ∙ half-size-exact level c.args.self.within
