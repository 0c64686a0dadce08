-- `difference`: each masked part is the difference on its axis, and the parts share no bit.
use Rattle.std.proofs.Common.{◌≡◌, ℕ, ◌+◌, ◌-◌, ◌%◌, ◌^◌, ◌<◌, ◌≤◌, arith}
use Rattle.std.proofs.lemmas.Nat.{and_le_l}
use lib.Bits.{bit_and}
use Rattle.morton_sums.specs.Interleaved.{Axis, X, Y, Z, place, width, on_axis, along}
use Rattle.morton_sums.proofs.Carry.{own}
use Rattle.morton_sums.proofs.Axis.{difference-on, joined}
use Rattle.morton_sums.proofs.difference.Goals as goal

-- a difference that wraps: with q more it is p again
wrapped : (p q : ℕ) → p < 2 ^ 64 → q ≤ 2 ^ 64 → ((p + (2 ^ 64 - q)) % 2 ^ 64 + q) % 2 ^ 64 ≡ p
wrapped p q h l = omega arith

part : (axis : Axis) (a b : ℕ) → a < 2 ^ 64 → b < 2 ^ 64
    → bit_and ((bit_and a (own 64 (place axis)) + (2 ^ 64 - bit_and b (own 64 (place axis)))) % 2 ^ 64) (own 64 (place axis))
    ≡ along axis ((on_axis axis a + 2 ^ width axis - on_axis axis b) % 2 ^ width axis)
part axis a b h l =
    let mask = own 64 (place axis) in
    let p : bit_and a mask ≤ a = and_le_l a mask in
    let q : bit_and b mask ≤ b = and_le_l b mask in
    difference-on axis a b _ (omega arith) l (wrapped (bit_and a mask) (bit_and b mask) (omega arith) (omega arith))

pub returns : goal.returns
unfolding own
returns c =
    let a = c.args.a in
    let b = c.args.b in
    let h = c.ranges.a.fits in
    let l = c.ranges.b.fits in
    joined _ _ _ (λ axis. (on_axis axis a + 2 ^ width axis - on_axis axis b) % 2 ^ width axis) (part Z a b h l) (part Y a b h l) (part X a b h l)
