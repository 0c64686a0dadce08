-- One bit of `&`, `|`, `^` and of a shift, where the bits of the operands are known.
use mathlib.Core.Path.{◌≡◌, refl, sym, ◌∙◌, ap, ap₂}
use mathlib.Core.Bool.{Bool, true, false, ◌&&◌, ◌||◌}
use Prim.Native.Nat.{ℕ, zero, suc, ◌+◌, ◌*◌, ◌/◌, ◌%◌, ◌^◌, ◌<◌}
use native.Mathlib.Nat.{add_comm, div-one, not-suc-le-zero, le_of_suc-le-suc}
use native.Mathlib.Numerals.{one-add}
use lib.Pow.{shr-shr}
use lib.Bits.{bit_or, bit_and, bit_xor, or_shr, and_shr, xor_shr, or_mod, and_mod, xor_mod, shifted_half, shifted_even}
use Rattle.marching_cubes_tables.specs.Rule.{bit_at}
use Rattle.walk.specs.Walk.{bit}

and-bits : (p q : Bool) → bit_and (bit p) (bit q) ≡ bit (p && q)
and-bits true true = refl
and-bits true false = refl
and-bits false true = refl
and-bits false false = refl

or-bits : (p q : Bool) → bit_or (bit p) (bit q) ≡ bit (p || q)
or-bits true true = refl
or-bits true false = refl
or-bits false true = refl
or-bits false false = refl

module _ (a b i : ℕ) (p q : Bool) (ea : bit_at a i ≡ bit p) (eb : bit_at b i ≡ bit q) where
  pub and-bit : bit_at (bit_and a b) i ≡ bit (p && q)
  and-bit = ap (λ (x : ℕ). x % 2) (and_shr a b i) ∙ and_mod (a / 2 ^ i) (b / 2 ^ i) 1 ∙ ap₂ bit_and ea eb ∙ and-bits p q

  pub or-bit : bit_at (bit_or a b) i ≡ bit (p || q)
  or-bit = ap (λ (x : ℕ). x % 2) (or_shr a b i) ∙ or_mod (a / 2 ^ i) (b / 2 ^ i) 1 ∙ ap₂ bit_or ea eb ∙ or-bits p q

  pub xor-bit : bit_at (bit_xor a b) i ≡ bit_xor (bit p) (bit q)
  xor-bit = ap (λ (x : ℕ). x % 2) (xor_shr a b i) ∙ xor_mod (a / 2 ^ i) (b / 2 ^ i) 1 ∙ ap₂ bit_xor ea eb

pub shift-bit : (a i : ℕ) → bit_at (a / 2 ^ 1) i ≡ bit_at a (i + 1)
shift-bit a i = ap (λ (x : ℕ). x % 2) (shr-shr a 1 i) ∙ ap (λ (j : ℕ). bit_at a j) (add_comm 1 i)

-- below bit i
pub multiple-bit : (c i j : ℕ) → j < i → bit_at (c * 2 ^ i) j ≡ 0
multiple-bit c zero j h = absurd (not-suc-le-zero h)
multiple-bit c (suc i) zero h = ap (λ (x : ℕ). x % 2) (div-one (c * 2 ^ suc i)) ∙ shifted_even c i
multiple-bit c (suc i) (suc j) h =
    ap (λ (x : ℕ). bit_at (c * 2 ^ suc i) x) (sym (one-add j))
    ∙ ap (λ (x : ℕ). x % 2) (sym (shr-shr (c * 2 ^ suc i) 1 j))
    ∙ ap (λ (x : ℕ). bit_at x j) (shifted_half c i)
    ∙ multiple-bit c i j (le_of_suc-le-suc h)
