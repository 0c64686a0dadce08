-- One binary digit at a time: a word as its half and its lowest digit, and what the operations on bits do to each.
use Rattle.std.proofs.Common.{◌≡◌, ℕ, zero, suc, ◌+◌, ◌*◌, ◌/◌, ◌%◌, ◌^◌, ◌<◌, min, max, sym, refl, ap, ◌∙◌, subst, ap₂, le_of_suc-le-suc, not-suc-le-zero, mod-lt, mod-eq_of_lt, zero-lt-suc, div-add-mod', arith, pow-add}
use lib.Arith.{bin_ind, digits_div, digits_mod}
use lib.Pow.{pow-lt}
use lib.Bits.{bit_and, bit_or, and_block, or_block, and_zero_r, or_zero_r, and_step, or_step, and_shr, or_shr}

pub digit_lt : (n : ℕ) → n % 2 < 2
digit_lt n = mod-lt n (zero-lt-suc 1)

-- a number below 2 is 0 or 1
binary : (P : ℕ → Type 0) → P 0 → P 1 → (d : ℕ) → d < 2 → P d
binary P p q zero h = p
binary P p q (suc zero) h = q
binary P p q (suc (suc d)) h = absurd (not-suc-le-zero (le_of_suc-le-suc (le_of_suc-le-suc h)))

pub half : (q : ℕ) {d : ℕ} → d < 2 → (q * 2 + d) / 2 ≡ q
half q h = digits_div q h

pub lowest : (q : ℕ) {d : ℕ} → d < 2 → (q * 2 + d) % 2 ≡ d
lowest q h = digits_mod q h

-- a mask with the lowest digit set or clear
pub and_set : (n m : ℕ) → bit_and n (m * 2 + 1) ≡ bit_and (n / 2) m * 2 + n % 2
and_set n m =
    ap (λ (x : ℕ). bit_and x (m * 2 + 1)) (sym (div-add-mod' n 2))
    ∙ and_block 1 (n / 2) m (n % 2) 1 (digit_lt n) (omega arith)
    ∙ ap (λ (x : ℕ). bit_and (n / 2) m * 2 + x) (binary (λ d. bit_and d 1 ≡ d) refl refl (n % 2) (digit_lt n))

pub and-clear : (n m : ℕ) → bit_and n (m * 2) ≡ bit_and (n / 2) m * 2
and-clear n m =
    ap₂ bit_and (sym (div-add-mod' n 2)) (omega arith)
    ∙ and_block 1 (n / 2) m (n % 2) 0 (digit_lt n) (omega arith)
    ∙ ap (λ (x : ℕ). bit_and (n / 2) m * 2 + x) (and_zero_r (n % 2)) ∙ omega arith

pub or_set : (n m : ℕ) → bit_or n (m * 2 + 1) ≡ bit_or (n / 2) m * 2 + 1
or_set n m =
    ap (λ (x : ℕ). bit_or x (m * 2 + 1)) (sym (div-add-mod' n 2))
    ∙ or_block 1 (n / 2) m (n % 2) 1 (digit_lt n) (omega arith)
    ∙ ap (λ (x : ℕ). bit_or (n / 2) m * 2 + x) (binary (λ d. bit_or d 1 ≡ 1) refl refl (n % 2) (digit_lt n))

pub or-clear : (n m : ℕ) → bit_or n (m * 2) ≡ bit_or (n / 2) m * 2 + n % 2
or-clear n m =
    ap₂ bit_or (sym (div-add-mod' n 2)) (omega arith)
    ∙ or_block 1 (n / 2) m (n % 2) 0 (digit_lt n) (omega arith)
    ∙ ap (λ (x : ℕ). bit_or (n / 2) m * 2 + x) (or_zero_r (n % 2))

-- a power of two, shifted within a word
pub power-shl : (k level : ℕ) → k + level < 64 → 2 ^ k * 2 ^ level % 2 ^ 64 ≡ 2 ^ (k + level)
power-shl k level h = mod-eq_of_lt (subst (λ (x : ℕ). x < 2 ^ 64) (pow-add 2 k level) (pow-lt h)) ∙ sym (pow-add 2 k level)

-- ---- words without a bit in common

no-half : (x y : ℕ) → x * 2 + y ≡ 0 → x ≡ 0
no-half x y h = omega arith

no_digit : (x y : ℕ) → x * 2 + y ≡ 0 → y ≡ 0
no_digit x y h = omega arith

module _ (m n : ℕ) (h : bit_and m n ≡ 0) where
  apart-halves : bit_and (m / 2) (n / 2) ≡ 0
  apart-halves = no-half _ (min (m % 2) (n % 2)) (sym (and_step m n) ∙ h)

  apart-lowest : min (m % 2) (n % 2) ≡ 0
  apart-lowest = no_digit (bit_and (m / 2) (n / 2)) _ (sym (and_step m n) ∙ h)

min-lt : (x y : ℕ) → x < 2 → min x y < 2
min-lt x y h = omega arith

max-lt : (x y : ℕ) → x < 2 → y < 2 → max x y < 2
max-lt x y h l = omega arith

and-lowest : (a b : ℕ) → bit_and a b % 2 ≡ min (a % 2) (b % 2)
and-lowest a b = ap (λ (x : ℕ). x % 2) (and_step a b) ∙ lowest (bit_and (a / 2) (b / 2)) (min-lt (a % 2) (b % 2) (digit_lt a))

or-lowest : (a b : ℕ) → bit_or a b % 2 ≡ max (a % 2) (b % 2)
or-lowest a b = ap (λ (x : ℕ). x % 2) (or_step a b) ∙ lowest (bit_or (a / 2) (b / 2)) (max-lt (a % 2) (b % 2) (digit_lt a) (digit_lt b))

min-apart : (p q r s : ℕ) → min q s ≡ 0 → min (min p q) (min r s) ≡ 0
min-apart p q r s h = omega arith

max-apart : (p q r : ℕ) → min p r ≡ 0 → min q r ≡ 0 → min (max p q) r ≡ 0
max-apart p q r h l = omega arith

-- what is under two such masks
pub apart-masked : (m s t n : ℕ) → bit_and m n ≡ 0 → bit_and (bit_and s m) (bit_and t n) ≡ 0
apart-masked =
    bin_ind (λ (m : ℕ). (s t n : ℕ) → bit_and m n ≡ 0 → bit_and (bit_and s m) (bit_and t n) ≡ 0)
    (λ s t n h. ap (λ (x : ℕ). bit_and x (bit_and t n)) (and_zero_r s))
    (λ m rest s t n h.
    and_step (bit_and s m) (bit_and t n)
    ∙ ap₂ (λ (x y : ℕ). x * 2 + y)
    (ap₂ bit_and (and_shr s m 1) (and_shr t n 1) ∙ rest (s / 2) (t / 2) (n / 2) (apart-halves m n h))
    (ap₂ min (and-lowest s m) (and-lowest t n) ∙ min-apart (s % 2) (m % 2) (t % 2) (n % 2) (apart-lowest m n h)))

-- two words apart from a third, joined
pub apart-joined : (r p q : ℕ) → bit_and p r ≡ 0 → bit_and q r ≡ 0 → bit_and (bit_or p q) r ≡ 0
apart-joined =
    bin_ind (λ (r : ℕ). (p q : ℕ) → bit_and p r ≡ 0 → bit_and q r ≡ 0 → bit_and (bit_or p q) r ≡ 0)
    (λ p q h l. and_zero_r (bit_or p q))
    (λ r rest p q h l.
    and_step (bit_or p q) r
    ∙ ap₂ (λ (x y : ℕ). x * 2 + y)
    (ap (λ (x : ℕ). bit_and x (r / 2)) (or_shr p q 1) ∙ rest (p / 2) (q / 2) (apart-halves p r h) (apart-halves q r l))
    (ap (λ (x : ℕ). min x (r % 2)) (or-lowest p q) ∙ max-apart (p % 2) (q % 2) (r % 2) (apart-lowest p r h) (apart-lowest q r l)))
