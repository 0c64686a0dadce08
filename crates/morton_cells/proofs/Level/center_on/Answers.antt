-- `center_on`: a coordinate has a bit for each level, so f32 holds it, and each operation is exact.
use mathlib.Core.Path.{◌≡◌, sym, ap₂, ◌∙◌, subst}
use Prim.Native.Nat.{ℕ, ◌^◌, ◌≤◌, ◌<◌}
use native.Mathlib.Nat.{le_trans, le_of_lt}
use native.Mathlib.Omega.{arith}
use lib.Dec.{T, le→leb}
use lib.IntN.{pos}
use lib.Pow.{pow_mono}
use lib.Ieee.{Float, binary32, add, mul, of_bits, of_int, in_float}
use Rattle.morton_sums.specs.Interleaved.{thirds}
use Rattle.morton_cells.proofs.Thirds.{thirds-lt}
use Rattle.morton_cells.proofs.Exact.{center-exact}
use Rattle.morton_cells.proofs.Level.center_on.Goals as goal

whole : (b level bits : ℕ) → level ≤ 21 → b ≡ thirds level bits → T (in_float binary32 (pos b))
unfolding in_float
whole b level bits h e =
    le→leb b (2 ^ 24) (le_trans (le_of_lt (subst (λ (x : ℕ). x < 2 ^ level) (sym e) (thirds-lt level bits))) (pow_mono {j = 24} (omega arith)))

pub int_to_float-result : goal.int_to_float-result
int_to_float-result c = whole c.coordinate.result c.args.self.number c.args.bits c.args.self.within c.coordinate.ensures

pub returns : goal.returns
returns c =
    let level = c.args.self.number in
    let b = thirds level c.args.bits in
    ap₂ (λ (x : ℕ) (size : Float). add binary32 (mul binary32 (of_int binary32 (pos x)) (mul binary32 size (of_bits binary32 0x4000_0000))) size)
    c.coordinate.ensures c.half_size-size.ensures
    ∙ center-exact b level c.args.self.within (thirds-lt level c.args.bits)
