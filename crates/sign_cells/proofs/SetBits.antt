-- What a loop over the set bits of a word rests on: the lowest set bit, and cells passed over, whose bit is 0 and whose step is idle. For any state and
-- any step. LowestBits has the loop itself.
use mathlib.Core.Path.{◌≡◌, refl, sym, ◌∙◌, ap}
use Prim.Native.Nat.{ℕ, zero, suc, ◌+◌, ◌*◌, ◌-◌, ◌/◌, ◌%◌, ◌^◌, ◌≤◌, ◌<◌, min}
use native.Mathlib.Nat.{pow-suc, div-one, zero-div, not-suc-le-zero, le_of_suc-le-suc, add-zero, add-suc}
use native.Mathlib.Numerals.{one-add}
use native.Mathlib.Omega.{arith}
use lib.Pow.{shr-shr}
use lib.Count.{count_trailing_zeros, under}
use Rattle.marching_cubes_tables.specs.Rule.{bit_at}
use Rattle.walk.specs.Walk.{times}

-- ---- the lowest set bit

below-under : (d n j t : ℕ) → n % 2 ≡ d → ((j : ℕ) → j < t → bit_at (n / 2) j ≡ 0) → j < under d t → bit_at n j ≡ 0
below-under zero n zero t e rest h = ap (λ (x : ℕ). x % 2) (div-one n) ∙ e
below-under zero n (suc j) t e rest h =
    ap (λ (x : ℕ). bit_at n x) (sym (one-add j)) ∙ ap (λ (x : ℕ). x % 2) (sym (shr-shr n 1 j)) ∙ rest j (le_of_suc-le-suc h)
below-under (suc d) n j t e rest h = absurd (not-suc-le-zero h)

-- the bits below it are 0
pub trailing_below : (k n j : ℕ) → j < count_trailing_zeros k n → bit_at n j ≡ 0
unfolding count_trailing_zeros
trailing_below zero n j h = absurd (not-suc-le-zero h)
trailing_below (suc k) n j h = below-under (n % 2) n j (count_trailing_zeros k (n / 2)) refl (trailing_below k (n / 2)) h

top-under : (d n k t : ℕ) → n % 2 ≡ d → 0 < n → n < 2 ^ suc k → (0 < n / 2 → n / 2 < 2 ^ k → (t < k) × (2 ^ t ≤ n / 2))
    → (under d t < suc k) × (2 ^ under d t ≤ n)
top-under zero n k t e p l rest =
    let r : (t < k) × (2 ^ t ≤ n / 2) = rest (omega arith) (omega (arith, pow-suc 2 k)) in
    (omega arith, omega (arith, pow-suc 2 t))
top-under (suc d) n k t e p l rest = (omega arith, omega arith)

-- it stands inside a number that is not 0
pub trailing-top : (k n : ℕ) → 0 < n → n < 2 ^ k → (count_trailing_zeros k n < k) × (2 ^ count_trailing_zeros k n ≤ n)
unfolding count_trailing_zeros
trailing-top zero n p l = absurd (omega arith)
trailing-top (suc k) n p l = top-under (n % 2) n k (count_trailing_zeros k (n / 2)) refl p l (trailing-top k (n / 2))

-- ---- the loop

module _ {S : Type 0} (step : ℕ → S → S) (start : S) (mask count : ℕ)
    (idle : (i : ℕ) → i < count → bit_at mask i ≡ 0 → step i (times i step start) ≡ times i step start) where
  -- t cells from i on have no bit set
  pub skip : (i t : ℕ) → i + t ≤ count → ((j : ℕ) → j < t → bit_at mask (i + j) ≡ 0) → times (i + t) step start ≡ times i step start
  unfolding times
  skip i zero h q = ap (λ (k : ℕ). times k step start) (add-zero i)
  skip i (suc t) h q =
      ap (λ (k : ℕ). times k step start) (add-suc i t)
      ∙ idle (i + t) (omega arith) (q t (omega arith))
      ∙ skip i t (omega arith) (λ j l. q j (omega arith))

  -- nothing is left
  pub to_end : (i : ℕ) → i ≤ count → mask / 2 ^ i ≡ 0 → times i step start ≡ times count step start
  to_end i h e =
      let whole : i + (count - i) ≡ count = omega arith in
      sym (skip i (count - i) (omega arith)
      (λ j l. ap (λ (y : ℕ). y % 2) (sym (shr-shr mask i j) ∙ ap (λ (y : ℕ). y / 2 ^ j) e) ∙ ap (λ (y : ℕ). y % 2) (zero-div (2 ^ j))))
      ∙ ap (λ (k : ℕ). times k step start) whole

-- ---- word after word

pub times-add : {S : Type 0} (step : ℕ → S → S) (start : S) (i j : ℕ) → times (i + j) step start ≡ times j (λ k t. step (i + k) t) (times i step start)
unfolding times
times-add step start i zero = ap (λ (k : ℕ). times k step start) (add-zero i)
times-add step start i (suc j) = ap (λ (k : ℕ). times k step start) (add-suc i j) ∙ ap (step (i + j)) (times-add step start i j)

-- the cells of the words below k, then those of word k
pub times-word : {S : Type 0} (step : ℕ → S → S) (start : S) (cells k : ℕ) → 32 * k ≤ cells
    → times (min (32 * (k + 1)) cells) step start ≡ times (min 32 (cells - 32 * k)) (λ j t. step (32 * k + j) t) (times (min (32 * k) cells) step start)
times-word step start cells k h =
    let here : min (32 * k) cells ≡ 32 * k = omega arith in
    let next : min (32 * (k + 1)) cells ≡ 32 * k + min 32 (cells - 32 * k) = omega arith in
    ap (λ (i : ℕ). times i step start) next
    ∙ times-add step start (32 * k) (min 32 (cells - 32 * k))
    ∙ ap (λ (i : ℕ). times (min 32 (cells - 32 * k)) (λ j t. step (32 * k + j) t) (times i step start)) (sym here)
