-- Sums in every third bit of a word: where the other bits of one operand are set and those of the other are clear, a carry passes over
-- them. One law for the three axes, which differ in how many bits stand before the first of their own, and for `sum` and `difference`.
use Rattle.std.proofs.Common.{◌≡◌, ℕ, zero, suc, ◌+◌, ◌-◌, ◌*◌, ◌/◌, ◌%◌, ◌^◌, ◌<◌, ◌≤◌, sym, refl, ap, ◌∙◌, ap₂, pow-suc, arith}
use lib.Bits.{bit_and, bit_or, and_zero_r}
use Rattle.morton_sums.proofs.Digits.{half, lowest, digit_lt, and_set, and-clear, or_set, or-clear}

-- ---- k bits of a word, of which the axis has one after s others, and then one after every two

-- the bits of the axis, and the others
unfoldable pub own : ℕ → ℕ → ℕ
own zero s = 0
own (suc k) zero = own k 2 * 2 + 1
own (suc k) (suc s) = own k s * 2

unfoldable pub others : ℕ → ℕ → ℕ
others zero s = 0
others (suc k) zero = others k 2 * 2
others (suc k) (suc s) = others k s * 2 + 1

-- the number in the bits of the axis, and a number put there
unfoldable pub gather : ℕ → ℕ → ℕ → ℕ
gather zero s word = 0
gather (suc k) zero word = gather k 2 (word / 2) * 2 + word % 2
gather (suc k) (suc s) word = gather k s (word / 2)

unfoldable pub scatter : ℕ → ℕ → ℕ → ℕ
scatter zero s number = 0
scatter (suc k) zero number = scatter k 2 (number / 2) * 2 + number % 2
scatter (suc k) (suc s) number = scatter k s number * 2

-- one more than the greatest number in the bits of the axis
unfoldable pub range : ℕ → ℕ → ℕ
range zero s = 1
range (suc k) zero = range k 2 * 2
range (suc k) (suc s) = range k s

-- ---- the law

-- digits a and b and a carry c: the digit of the sum, and the carry that goes on
digits-add : (p q a b c : ℕ) → p * 2 + a + (q * 2 + b) + c ≡ (p + q + (a + b + c) / 2) * 2 + (a + b + c) % 2
digits-add p q a b c = omega arith

carry-le : (a b c : ℕ) → a < 2 → b < 2 → c ≤ 1 → (a + b + c) / 2 ≤ 1
carry-le a b c h l m = omega arith

passed : (p q c : ℕ) → c ≤ 1 → p * 2 + 1 + q * 2 + c ≡ (p + q + c) * 2 + (1 - c)
passed p q c h = omega arith

less : (c : ℕ) → 1 - c < 2
less c = omega arith

pub sum-in : (k s a b c : ℕ) → c ≤ 1 → bit_and (bit_or a (others k s) + bit_and b (own k s) + c) (own k s) ≡ scatter k s (gather k s a + gather k s b + c)
unfolding own others gather scatter
sum-in zero s a b c h = and_zero_r (bit_or a 0 + bit_and b 0 + c)
sum-in (suc k) zero a b c h =
    let o = bit_or (a / 2) (others k 2) in
    let w = bit_and (b / 2) (own k 2) in
    let d = (a % 2 + b % 2 + c) % 2 in
    let e = (a % 2 + b % 2 + c) / 2 in
    let total = gather k 2 (a / 2) + gather k 2 (b / 2) + e in
    let l : d < 2 = digit_lt (a % 2 + b % 2 + c) in
    let word : bit_or a (others k 2 * 2) + bit_and b (own k 2 * 2 + 1) + c ≡ (o + w + e) * 2 + d =
    ap₂ (λ (x y : ℕ). x + y + c) (or-clear a (others k 2)) (and_set b (own k 2)) ∙ digits-add o w (a % 2) (b % 2) c in
    let number : gather k 2 (a / 2) * 2 + a % 2 + (gather k 2 (b / 2) * 2 + b % 2) + c ≡ total * 2 + d =
    digits-add (gather k 2 (a / 2)) (gather k 2 (b / 2)) (a % 2) (b % 2) c in
    ap (λ (x : ℕ). bit_and x (own k 2 * 2 + 1)) word
    ∙ and_set ((o + w + e) * 2 + d) (own k 2)
    ∙ ap₂ (λ (x y : ℕ). bit_and x (own k 2) * 2 + y) (half (o + w + e) l) (lowest (o + w + e) l)
    ∙ ap (λ (x : ℕ). x * 2 + d) (sum-in k 2 (a / 2) (b / 2) e (carry-le (a % 2) (b % 2) c (digit_lt a) (digit_lt b) h))
    ∙ ap₂ (λ (x y : ℕ). scatter k 2 x * 2 + y) (sym (half total l)) (sym (lowest total l))
    ∙ ap (λ (x : ℕ). scatter k 2 (x / 2) * 2 + x % 2) (sym number)
sum-in (suc k) (suc s) a b c h =
    let o = bit_or (a / 2) (others k s) in
    let w = bit_and (b / 2) (own k s) in
    let word : bit_or a (others k s * 2 + 1) + bit_and b (own k s * 2) + c ≡ (o + w + c) * 2 + (1 - c) =
    ap₂ (λ (x y : ℕ). x + y + c) (or_set a (others k s)) (and-clear b (own k s)) ∙ passed o w c h in
    ap (λ (x : ℕ). bit_and x (own k s * 2)) word
    ∙ and-clear ((o + w + c) * 2 + (1 - c)) (own k s)
    ∙ ap (λ (x : ℕ). bit_and x (own k s) * 2) (half (o + w + c) (less c))
    ∙ ap (λ (x : ℕ). x * 2) (sum-in k s (a / 2) (b / 2) c h)

-- ---- complements

opposite-digits : (n b p : ℕ) → suc (n + b) ≡ p * 2 → n % 2 + b % 2 ≡ 1
opposite-digits n b p h = omega arith

opposite-halves : (n b p : ℕ) → suc (n + b) ≡ p * 2 → suc (n / 2 + b / 2) ≡ p
opposite-halves n b p h = omega arith

digits-opposite : (p q a b r : ℕ) → a + b ≡ 1 → suc (p + q) ≡ r → suc (p * 2 + a + (q * 2 + b)) ≡ r * 2
digits-opposite p q a b r h e = omega arith

-- of two words of k bits that have all bits set between them, one with its other bits set and one with them clear have that too
pub complement-word : (k s n b : ℕ) → suc (n + b) ≡ 2 ^ k → suc (bit_or n (others k s) + bit_and b (own k s)) ≡ 2 ^ k
unfolding own others
complement-word zero s n b h =
    let none : n ≡ 0 = omega arith in ap₂ (λ (x y : ℕ). suc (bit_or x 0 + y)) none (and_zero_r b)
complement-word (suc k) zero n b h =
    let e = h ∙ pow-suc 2 k in
    ap₂ (λ (x y : ℕ). suc (x + y)) (or-clear n (others k 2)) (and_set b (own k 2))
    ∙ digits-opposite _ _ (n % 2) (b % 2) (2 ^ k) (opposite-digits n b (2 ^ k) e) (complement-word k 2 (n / 2) (b / 2) (opposite-halves n b (2 ^ k) e))
    ∙ sym (pow-suc 2 k)
complement-word (suc k) (suc s) n b h =
    let e = h ∙ pow-suc 2 k in
    ap₂ (λ (x y : ℕ). suc (x + y)) (or_set n (others k s)) (and-clear b (own k s) ∙ omega arith)
    ∙ digits-opposite _ _ 1 0 (2 ^ k) refl (complement-word k s (n / 2) (b / 2) (opposite-halves n b (2 ^ k) e))
    ∙ sym (pow-suc 2 k)

-- and the numbers in their own bits have all bits set between them
pub complement-number : (k s n b : ℕ) → suc (n + b) ≡ 2 ^ k → suc (gather k s n + gather k s b) ≡ range k s
unfolding gather range
complement-number zero s n b h = refl
complement-number (suc k) zero n b h =
    let e = h ∙ pow-suc 2 k in
    digits-opposite _ _ (n % 2) (b % 2) (range k 2) (opposite-digits n b (2 ^ k) e) (complement-number k 2 (n / 2) (b / 2) (opposite-halves n b (2 ^ k) e))
complement-number (suc k) (suc s) n b h = complement-number k s (n / 2) (b / 2) (opposite-halves n b (2 ^ k) (h ∙ pow-suc 2 k))
