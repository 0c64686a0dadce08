-- `new_in`: for each edge the cells at which its ends differ.
use mathlib.Core.Bool.{◌&&◌}
use mathlib.Core.Path.{◌≡◌, ◌∙◌}
use Prim.Native.Nat.{ℕ, ◌+◌}
use native.Mathlib.Omega.{arith}
use Rattle.cell_tally.proofs.SetBits.{and_set, xor-set}
use Rattle.walk.specs.Walk.{bit}
use Rattle.corner_signs.specs.Signs.{differ}
use Rattle.cell_tally.specs.declared.Corners.{Corners}
use Rattle.cell_tally.specs.Tally.{corner, is_set, set_in, new_in}
use Rattle.cell_tally.proofs.Tallies.{Comes, comes-plus, comes-set, new-comes}
use lib.Bits.{bit_and, bit_xor}
use Rattle.cell_tally.proofs.Corners.new_in.Goals as goal

-- over plain variables: among the records of the walk `simp` is dear
anywhere : {mask a : ℕ} (p q : ℕ) → a ≡ set_in (bit_xor p q) mask → Comes mask (λ i. bit (differ (is_set p i) (is_set q i))) a
anywhere p q e = comes-set (bit_xor p q) (λ i. differ (is_set p i) (is_set q i)) e (λ i. xor-set p q i)

within : {mask a : ℕ} (p q w : ℕ) → a ≡ set_in (bit_and (bit_xor p q) w) mask → Comes mask (λ i. bit (differ (is_set p i) (is_set q i) && is_set w i)) a
within p q w e = comes-set (bit_and (bit_xor p q) w) (λ i. differ (is_set p i) (is_set q i) && is_set w i) e (λ i. simp (and_set, xor-set))

within_both : {mask a : ℕ} (p q v w : ℕ) → a ≡ set_in (bit_and (bit_and (bit_xor p q) v) w) mask
    → Comes mask (λ i. bit ((differ (is_set p i) (is_set q i) && is_set v i) && is_set w i)) a
within_both p q v w e =
    comes-set (bit_and (bit_and (bit_xor p q) v) w) (λ i. (differ (is_set p i) (is_set q i) && is_set v i) && is_set w i) e (λ i. simp (and_set, xor-set))

new-edges : (k : Corners) (mask first top a₁ a₂ a₃ a₄ a₅ a₆ a₇ a₈ : ℕ)
    → a₁ ≡ set_in (bit_xor (corner k 5) (corner k 6)) mask → a₂ ≡ set_in (bit_xor (corner k 6) (corner k 7)) mask → a₃ ≡ set_in (bit_xor (corner k 2) (corner k 6)) mask
    → a₄ ≡ set_in (bit_and (bit_xor (corner k 4) (corner k 7)) first) mask → a₅ ≡ set_in (bit_and (bit_xor (corner k 3) (corner k 7)) first) mask
    → a₆ ≡ set_in (bit_and (bit_xor (corner k 4) (corner k 5)) top) mask → a₇ ≡ set_in (bit_and (bit_xor (corner k 1) (corner k 5)) top) mask
    → a₈ ≡ set_in (bit_and (bit_and (bit_xor (corner k 0) (corner k 4)) first) top) mask
    → a₁ + a₂ + a₃ + (a₄ + a₅) + (a₆ + a₇) + a₈ ≡ new_in k mask first top
new-edges k mask first top a₁ a₂ a₃ a₄ a₅ a₆ a₇ a₈ e₁ e₂ e₃ e₄ e₅ e₆ e₇ e₈ =
    (comes-plus
    (comes-plus
    (comes-plus
    (comes-plus (comes-plus (anywhere (corner k 5) (corner k 6) e₁) (anywhere (corner k 6) (corner k 7) e₂)) (anywhere (corner k 2) (corner k 6) e₃))
    (comes-plus (within (corner k 4) (corner k 7) first e₄) (within (corner k 3) (corner k 7) first e₅)))
    (comes-plus (within (corner k 4) (corner k 5) top e₆) (within (corner k 1) (corner k 5) top e₇)))
    (within_both (corner k 0) (corner k 4) first top e₈)
    ).equal
    ∙ new-comes k mask first top

pub returns : goal.returns
returns c =
    let args = c.args in (
      new-edges args.self args.mask args.first args.top c.set_in.result c.set_in-2.result c.set_in-3.result c.set_in-4.result c.set_in-5.result c.set_in-6.result c.set_in-7.result c.set_in-8.result
          c.set_in.ensures.0 c.set_in-2.ensures.0 c.set_in-3.ensures.0 c.set_in-4.ensures.0 c.set_in-5.ensures.0 c.set_in-6.ensures.0 c.set_in-7.ensures.0 c.set_in-8.ensures.0,
      omega (arith, c.set_in.ensures.1, c.set_in-2.ensures.1, c.set_in-3.ensures.1, c.set_in-4.ensures.1, c.set_in-5.ensures.1, c.set_in-6.ensures.1, c.set_in-7.ensures.1, c.set_in-8.ensures.1),
    )
