-- Sums over the first numbers, and over the cells of a mask: of like terms, of two sums, and their bounds.
use mathlib.Core.Path.{◌≡◌, refl, ◌∙◌, ap, ap₂}
use mathlib.Core.Bool.{Bool, true, false, cond}
use Prim.Native.Nat.{ℕ, zero, suc, ◌+◌, ◌*◌, ◌≤◌, ◌<◌}
use native.Mathlib.Nat.{mul-zero, mul-add, suc-mul}
use native.Mathlib.Omega.{arith}
use Rattle.cell_tally.specs.Tally.{total, is_set, in_mask}

pub total-same : (f g : ℕ → ℕ) (k : ℕ) → ((i : ℕ) → i < k → f i ≡ g i) → total f k ≡ total g k
unfolding total
total-same f g zero h = refl
total-same f g (suc k) h = ap₂ ◌+◌ (total-same f g k (λ i l. h i (omega arith))) (h k (omega arith))

pub total-add : (f g : ℕ → ℕ) (k : ℕ) → total f k + total g k ≡ total (λ i. f i + g i) k
unfolding total
total-add f g zero = refl
total-add f g (suc k) = let below = total-add f g k in omega (arith, below)

pub total-times : (c : ℕ) (f : ℕ → ℕ) (k : ℕ) → c * total f k ≡ total (λ i. c * f i) k
unfolding total
total-times c f zero = mul-zero c
total-times c f (suc k) = mul-add c (total f k) (f k) ∙ ap (λ (x : ℕ). x + c * f k) (total-times c f k)

pub total-le : (f : ℕ → ℕ) (c k : ℕ) → ((i : ℕ) → i < k → f i ≤ c) → total f k ≤ k * c
unfolding total
total-le f c zero h = omega arith
total-le f c (suc k) h = omega (arith, total-le f c k (λ i l. h i (omega arith)), h k (omega arith), suc-mul k c)

pub total_mono : (f g : ℕ → ℕ) (k : ℕ) → ((i : ℕ) → i < k → f i ≤ g i) → total f k ≤ total g k
unfolding total
total_mono f g zero h = omega arith
total_mono f g (suc k) h = omega (arith, total_mono f g k (λ i l. h i (omega arith)), h k (omega arith))

module _ (mask : ℕ) where
  pub in_mask-same : (f g : ℕ → ℕ) → ((i : ℕ) → f i ≡ g i) → in_mask mask f ≡ in_mask mask g
  in_mask-same f g h = total-same _ _ 32 (λ i l. ap (λ (x : ℕ). cond (is_set mask i) x 0) (h i))

  pub in_mask-add : (f g : ℕ → ℕ) → in_mask mask f + in_mask mask g ≡ in_mask mask (λ i. f i + g i)
  in_mask-add f g = total-add _ _ 32 ∙ total-same _ _ 32 (λ i l. both (is_set mask i) (f i) (g i))
    where
      both : (b : Bool) (x y : ℕ) → cond b x 0 + cond b y 0 ≡ cond b (x + y) 0
      both true x y = refl
      both false x y = refl

  pub in_mask-times : (c : ℕ) (f : ℕ → ℕ) → c * in_mask mask f ≡ in_mask mask (λ i. c * f i)
  in_mask-times c f = total-times c _ 32 ∙ total-same _ _ 32 (λ i l. both (is_set mask i) (f i))
    where
      both : (b : Bool) (x : ℕ) → c * cond b x 0 ≡ cond b (c * x) 0
      both true x = refl
      both false x = mul-zero c

  pub in_mask-le : (f : ℕ → ℕ) (c : ℕ) → ((i : ℕ) → f i ≤ c) → in_mask mask f ≤ 32 * c
  in_mask-le f c h = total-le _ c 32 (λ i l. both (is_set mask i) (f i) (h i))
    where
      both : (b : Bool) (x : ℕ) → x ≤ c → cond b x 0 ≤ c
      both true x l = l
      both false x l = omega arith
