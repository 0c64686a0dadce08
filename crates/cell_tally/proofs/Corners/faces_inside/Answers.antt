-- `faces_inside`: for each face the bits that its four words have.
use mathlib.Core.Path.{◌≡◌}
use Prim.Native.Nat.{ℕ, ◌+◌}
use native.Mathlib.Omega.{arith}
use Rattle.cell_tally.proofs.SetBits.{and_set}
use Rattle.walk.specs.Walk.{bit}
use Rattle.corner_signs.specs.Signs.{four, faces_at}
use Rattle.cell_tally.specs.declared.Corners.{Corners}
use Rattle.cell_tally.specs.Tally.{corner, is_set, in_mask, set_in, of_signs}
use Rattle.cell_tally.proofs.Tallies.{Comes, comes-plus, comes-set}
use lib.Bits.{bit_and}
use Rattle.cell_tally.proofs.Corners.faces_inside.Goals as goal

-- over plain variables: among the records of the walk `simp` is dear
face : {mask a : ℕ} (p q r s : ℕ) → a ≡ set_in (bit_and (bit_and (bit_and p q) r) s) mask
    → Comes mask (λ i. bit (four (is_set p i) (is_set q i) (is_set r i) (is_set s i))) a
face p q r s e = comes-set (bit_and (bit_and (bit_and p q) r) s) (λ i. four (is_set p i) (is_set q i) (is_set r i) (is_set s i)) e (λ i. simp and_set)

faces : (k : Corners) (mask z₀ z₁ y₀ y₁ x₀ x₁ : ℕ)
    → z₀ ≡ set_in (bit_and (bit_and (bit_and (corner k 0) (corner k 1)) (corner k 2)) (corner k 3)) mask → z₁ ≡ set_in (bit_and (bit_and (bit_and (corner k 4) (corner k 5)) (corner k 6)) (corner k 7)) mask
    → y₀ ≡ set_in (bit_and (bit_and (bit_and (corner k 0) (corner k 1)) (corner k 4)) (corner k 5)) mask → y₁ ≡ set_in (bit_and (bit_and (bit_and (corner k 2) (corner k 3)) (corner k 6)) (corner k 7)) mask
    → x₀ ≡ set_in (bit_and (bit_and (bit_and (corner k 0) (corner k 3)) (corner k 4)) (corner k 7)) mask → x₁ ≡ set_in (bit_and (bit_and (bit_and (corner k 1) (corner k 2)) (corner k 5)) (corner k 6)) mask
    → z₀ + z₁ + (y₀ + y₁) + (x₀ + x₁) ≡ in_mask mask (of_signs faces_at k)
faces k mask z₀ z₁ y₀ y₁ x₀ x₁ e₁ e₂ e₃ e₄ e₅ e₆ =
    (comes-plus
    (comes-plus
    (comes-plus (face (corner k 0) (corner k 1) (corner k 2) (corner k 3) e₁) (face (corner k 4) (corner k 5) (corner k 6) (corner k 7) e₂))
    (comes-plus (face (corner k 0) (corner k 1) (corner k 4) (corner k 5) e₃) (face (corner k 2) (corner k 3) (corner k 6) (corner k 7) e₄)))
    (comes-plus (face (corner k 0) (corner k 3) (corner k 4) (corner k 7) e₅) (face (corner k 1) (corner k 2) (corner k 5) (corner k 6) e₆))
    ).equal

pub returns : goal.returns
returns c =
    let args = c.args in (
      faces args.self args.mask c.set_in.result c.set_in-2.result c.set_in-3.result c.set_in-4.result c.set_in-5.result c.set_in-6.result c.set_in.ensures.0 c.set_in-2.ensures.0 c.set_in-3.ensures.0 c.set_in-4.ensures.0 c.set_in-5.ensures.0 c.set_in-6.ensures.0,
      omega (arith, c.set_in.ensures.1, c.set_in-2.ensures.1, c.set_in-3.ensures.1, c.set_in-4.ensures.1, c.set_in-5.ensures.1, c.set_in-6.ensures.1),
    )
