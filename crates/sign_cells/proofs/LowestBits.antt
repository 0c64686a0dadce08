-- The loop over the set bits of a word that takes its lowest bit away by `m & (m - 1)`: at each turn the bits below cell i are 0 and the others are the mask's.
-- For any state and any step that is idle at a 0 bit, as in SetBits.antt, whose laws it cites.
use mathlib.Core.Path.{◌≡◌, refl, sym, ◌∙◌, ap, subst}
use Prim.Native.Nat.{ℕ, zero, suc, ◌+◌, ◌-◌, ◌*◌, ◌/◌, ◌%◌, ◌^◌, ◌≤◌, ◌<◌, min}
use native.Mathlib.Nat.{pow-suc, div-one, zero-div, mul-one, mul-div_cancel, div-mul-le_self, lt_of_lt_of_le, lt_of_le_of_lt, le_trans, le_of_eq}
use native.Mathlib.Numerals.{add-one, one-add}
use native.Mathlib.Omega.{arith}
use native.Mathlib.Decide.{dec_lt}
use lib.Pow.{shr-shr, pow_mono, pow_pos}
use lib.Bits.{bit_and, and_step, and_self, and_le_r}
use lib.Count.{count_trailing_zeros, under}
use Rattle.marching_cubes_tables.specs.Rule.{bit_at}
use Rattle.walk.specs.Walk.{times}
use Rattle.walk_models.specs.Owned.{Count}
use Rattle.sign_words.proofs.OneBit.{multiple-bit}
use Rattle.sign_cells.proofs.SetBits.{trailing_below, trailing-top, skip, to_end}

-- ---- the lowest set bit

set-under : (d n t : ℕ) → n % 2 ≡ d → 0 < n → (0 < n / 2 → bit_at (n / 2) t ≡ 1) → bit_at n (under d t) ≡ 1
set-under zero n t e p rest = ap (λ (x : ℕ). bit_at n x) (sym (one-add t)) ∙ ap (λ (x : ℕ). x % 2) (sym (shr-shr n 1 t)) ∙ rest (omega arith)
set-under (suc d) n t e p rest = ap (λ (x : ℕ). x % 2) (div-one n) ∙ omega arith

-- it is set
trailing-set : (k n : ℕ) → 0 < n → n < 2 ^ k → bit_at n (count_trailing_zeros k n) ≡ 1
unfolding count_trailing_zeros
trailing-set zero n p l = absurd (omega arith)
trailing-set (suc k) n p l =
    set-under (n % 2) n (count_trailing_zeros k (n / 2)) refl p (λ q. trailing-set k (n / 2) q (omega (arith, pow-suc 2 k)))

-- the word without it, one digit after the other
gone-odd : (n d : ℕ) → n % 2 ≡ suc d → bit_and n (n - 1) ≡ n / 2 ^ 1 * 2 ^ 1
gone-odd n d e =
    let same : (n - 1) / 2 ≡ n / 2 = omega arith in
    let none : (n - 1) % 2 ≡ 0 = omega arith in
    and_step n (n - 1)
    ∙ rw (same, none, and_self (n / 2)) (omega arith)

twice : (q low high r : ℕ) → high ≡ low * 2 → q * low * 2 + min 0 r ≡ q * high
twice q low high r e = rw e (omega arith)

gone-even : (n t : ℕ) → n % 2 ≡ 0 → 0 < n → bit_and (n / 2) (n / 2 - 1) ≡ n / 2 / 2 ^ suc t * 2 ^ suc t → bit_and n (n - 1) ≡ n / 2 ^ suc (suc t) * 2 ^ suc (suc t)
gone-even n t e p rest =
    let same : (n - 1) / 2 ≡ n / 2 - 1 = omega arith in
    let half : n / 2 / 2 ^ suc t ≡ n / 2 ^ suc (suc t) = shr-shr n 1 (suc t) ∙ ap (λ (x : ℕ). n / 2 ^ x) (one-add (suc t)) in
    and_step n (n - 1)
    ∙ rw (same, e, rest, half) (twice (n / 2 ^ suc (suc t)) (2 ^ suc t) (2 ^ suc (suc t)) ((n - 1) % 2) (pow-suc 2 (suc t)))

gone-under : (d n t : ℕ) → n % 2 ≡ d → 0 < n → (0 < n / 2 → bit_and (n / 2) (n / 2 - 1) ≡ n / 2 / 2 ^ suc t * 2 ^ suc t)
    → bit_and n (n - 1) ≡ n / 2 ^ suc (under d t) * 2 ^ suc (under d t)
gone-under zero n t e p rest = gone-even n t e p (rest (omega arith))
gone-under (suc d) n t e p rest = gone-odd n d e

trailing-gone : (k n : ℕ) → 0 < n → n < 2 ^ k → bit_and n (n - 1) ≡ n / 2 ^ suc (count_trailing_zeros k n) * 2 ^ suc (count_trailing_zeros k n)
unfolding count_trailing_zeros
trailing-gone zero n p l = absurd (omega arith)
trailing-gone (suc k) n p l =
    gone-under (n % 2) n (count_trailing_zeros k (n / 2)) refl p (λ q. trailing-gone k (n / 2) q (omega (arith, pow-suc 2 k)))

-- the loop ends
pub gone-less : (m : ℕ) → 0 < m → bit_and m (m - 1) < m
gone-less m p = omega (arith, and_le_r m (m - 1))

-- ---- what is left of the word

-- from bit i on
above : (mask i j : ℕ) → mask / 2 ^ i * 2 ^ i / 2 ^ (i + j) ≡ mask / 2 ^ (i + j)
above mask i j =
    sym (shr-shr (mask / 2 ^ i * 2 ^ i) i j)
    ∙ ap (λ (x : ℕ). x / 2 ^ j) (mul-div_cancel (mask / 2 ^ i) (pow_pos i))
    ∙ shr-shr mask i j

module _ (mask count i m : ℕ) (left : m ≡ mask / 2 ^ i * 2 ^ i) (few : count ≤ 32) (small : mask < 2 ^ count) (some : 0 < m) where
  m-lt : m < 2 ^ count
  m-lt = lt_of_le_of_lt (le_trans (le_of_eq left) (div-mul-le_self mask (2 ^ i))) small

  m-fits : m < 2 ^ 32
  m-fits = lt_of_lt_of_le m-lt (pow_mono few)

  -- what is found is a cell of the word, and none of those before
  pub lowest-lt : count_trailing_zeros 32 m < count
  lowest-lt = elim (dec_lt (count_trailing_zeros 32 m) count) [
    | yes p ↦ p
    | no p ↦
        let q : count ≤ count_trailing_zeros 32 m = omega arith in
        let low = pow_mono q in
        let high = (trailing-top 32 m some m-fits).1 in
        absurd (omega (arith, m-lt))
  ]

  pub lowest-ge : i ≤ count_trailing_zeros 32 m
  lowest-ge = elim (dec_lt (count_trailing_zeros 32 m) i) [
    | yes p ↦
        let clear : bit_at m (count_trailing_zeros 32 m) ≡ 0 = ap (λ (x : ℕ). bit_at x (count_trailing_zeros 32 m)) left ∙ multiple-bit (mask / 2 ^ i) i (count_trailing_zeros 32 m) p in
        let set = trailing-set 32 m some m-fits in
        absurd (omega arith)
    | no p ↦ omega arith
  ]

  -- the found bit and those below it are gone
  pub gone-next : bit_and m (m - 1) ≡ mask / 2 ^ (count_trailing_zeros 32 m + 1) * 2 ^ (count_trailing_zeros 32 m + 1)
  gone-next =
      let t = count_trailing_zeros 32 m in
      let ge = lowest-ge in
      let beyond : i + (suc t - i) ≡ suc t = omega arith in
      let same : m / 2 ^ suc t ≡ mask / 2 ^ suc t =
      subst (λ (x : ℕ). m / 2 ^ x ≡ mask / 2 ^ x) beyond (ap (λ (x : ℕ). x / 2 ^ (i + (suc t - i))) left ∙ above mask i (suc t - i)) in
      trailing-gone 32 m some m-fits ∙ ap (λ (x : ℕ). x * 2 ^ suc t) same ∙ ap (λ (x : ℕ). mask / 2 ^ x * 2 ^ x) (sym (add-one t))

  -- up to the found bit there is none
  pub none_before : (j : ℕ) → j < count_trailing_zeros 32 m - i → bit_at mask (i + j) ≡ 0
  none_before j h =
      ap (λ (x : ℕ). x % 2) (sym (above mask i j) ∙ ap (λ (x : ℕ). x / 2 ^ (i + j)) (sym left)) ∙ trailing_below 32 m (i + j) (omega arith)

-- ---- a word, bit after bit: the cells before cell i are done

pub record AtCell {S : Type 0} (count : S → Count) (step : ℕ → S → S) (cells : ℕ) (start here : S) (mask rest i : ℕ) : Type 0 where
  pub left : rest ≡ mask / 2 ^ i * 2 ^ i
  pub within : i ≤ cells
  pub state : here ≡ times i step start
  pub grown : (count here).written ≤ (count start).written + 15 * i
  pub ordered : (count here).made ≤ (count here).written

-- some of them are
pub record Onward {S : Type 0} (count : S → Count) (step : ℕ → S → S) (cells : ℕ) (start here : S) (mask rest : ℕ) : Type 0 where
  pub done : ℕ
  pub at : AtCell count step cells start here mask rest done

module _ {S : Type 0} (count : S → Count) (step : ℕ → S → S) (cells : ℕ) (start : S) (mask : ℕ) where
  pub onward-first : (count start).made ≤ (count start).written → Onward count step cells start start mask mask
  unfolding times
  onward-first h = record {
    done = 0;
    at = record { left = sym (div-one mask) ∙ sym (mul-one (mask / 1)); within = omega arith; state = refl; grown = omega arith; ordered = h };
  }

  module _ (here : S) (rest : ℕ) (on : Onward count step cells start here mask rest) (few : cells ≤ 32) (small : mask < 2 ^ cells) where
    -- the lowest bit left is a cell of the word, and the indices that are there leave room for those of the cells from it on
    pub onward-found : 0 < rest → (count_trailing_zeros 32 rest < cells) × ((count here).written ≤ (count start).written + 15 * count_trailing_zeros 32 rest)
    onward-found p =
        let ge = lowest-ge mask cells on.done rest on.at.left few small p in
        let grown = on.at.grown in
        (lowest-lt mask cells on.done rest on.at.left few small p, omega arith)

    module _ (idle : (j : ℕ) → j < cells → bit_at mask j ≡ 0 → step j (times j step start) ≡ times j step start) where
      pub onward-next : (next : S) → 0 < rest → next ≡ step (count_trailing_zeros 32 rest) here
          → (count next).written ≤ (count here).written + 15 → (count next).made ≤ (count next).written
          → Onward count step cells start next mask (bit_and rest (rest - 1))
      unfolding times
      onward-next next p e g o =
          let t = count_trailing_zeros 32 rest in
          let i = on.done in
          let at = on.at in
          let lt = lowest-lt mask cells i rest at.left few small p in
          let ge = lowest-ge mask cells i rest at.left few small p in
          let grown = at.grown in
          let there : i + (t - i) ≡ t = omega arith in
          let passed : times t step start ≡ times i step start =
          subst (λ (x : ℕ). times x step start ≡ times i step start) there
          (skip step start mask cells idle i (t - i) (omega arith) (none_before mask cells i rest at.left few small p)) in
          record {
            done = t + 1;
            at = record {
              left = gone-next mask cells i rest at.left few small p;
              within = omega arith;
              state = e ∙ ap (step t) (at.state ∙ sym passed) ∙ ap (λ (k : ℕ). times k step start) (sym (add-one t));
              grown = omega arith;
              ordered = o;
            };
          }

      pub onward-last : rest ≡ 0 → here ≡ times cells step start
      onward-last e =
          let at = on.at in
          let none : mask / 2 ^ on.done ≡ 0 =
          sym (mul-div_cancel (mask / 2 ^ on.done) (pow_pos on.done)) ∙ ap (λ (x : ℕ). x / 2 ^ on.done) (sym at.left ∙ e) ∙ zero-div (2 ^ on.done) in
          at.state ∙ to_end step start mask cells idle on.done at.within none
