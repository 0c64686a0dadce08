-- Words of bits, each bit from a Bool: how a loop builds one, what its bits are, and two words with the same bits.
use mathlib.Core.Path.{◌≡◌, refl, sym, ◌∙◌, ap, ap₂, subst}
use mathlib.Core.Bool.{Bool, true, false}
use mathlib.Core.Logic.{⊎_elim}
use Prim.Native.Nat.{ℕ, zero, suc, ◌+◌, ◌*◌, ◌-◌, ◌/◌, ◌%◌, ◌^◌, ◌≤◌, ◌<◌}
use native.Mathlib.Nat.{pow-suc, add_comm, mod-eq_of_lt, mod-lt, not-suc-le-zero, le_of_suc-le-suc, eq-or-lt_of_le, add-zero, add-suc}
use native.Mathlib.Numerals.{add-one, one-add}
use native.Mathlib.Omega.{arith}
use lib.Pow.{pow_pos, shl_exact, field, mod-mod-pow, mod-pow-add, high, low}
use lib.Bits.{bit_or, or_shifted_r}
use mir.Val.{bool_byte}
use Rattle.marching_cubes_tables.specs.Rule.{bit_at}
use Rattle.walk.specs.Walk.{bit}
use Rattle.sign_words.specs.Words.{word_of}

bit-mul-le : (b : Bool) (p : ℕ) → bit b * p ≤ p
bit-mul-le true p = omega arith
bit-mul-le false p = omega arith

bit-lt : (b : Bool) → bit b < 2
bit-lt true = omega arith
bit-lt false = omega arith

pub word_of-lt : (f : ℕ → Bool) (k : ℕ) → word_of f k < 2 ^ k
unfolding word_of
word_of-lt f zero = omega arith
word_of-lt f (suc k) = omega (arith, word_of-lt f k, pow-suc 2 k, bit-mul-le (f k) (2 ^ k))

-- ---- a turn of the loop that builds a word of 32 bits

bool_byte-bit : (b : Bool) → bool_byte b ≡ bit b
bool_byte-bit true = refl
bool_byte-bit false = refl

pub word_of-turn : (f : ℕ → Bool) (i word : ℕ) → i < 32 → word ≡ word_of f i → bit_or word (bool_byte (f i) * 2 ^ i % 2 ^ 32) ≡ word_of f (i + 1)
unfolding word_of
word_of-turn f i word h e =
    let l : word < 2 ^ i = subst (λ (m : ℕ). m < 2 ^ i) (sym e) (word_of-lt f i) in
    ap (λ (y : ℕ). bit_or word (y * 2 ^ i % 2 ^ 32)) (bool_byte-bit (f i))
    ∙ ap (bit_or word) (shl_exact 1 i 32 (bit-lt (f i)) (omega arith))
    ∙ or_shifted_r (bit (f i)) i word l
    ∙ add_comm (bit (f i) * 2 ^ i) word
    ∙ ap (λ (m : ℕ). m + bit (f i) * 2 ^ i) e
    ∙ ap (word_of f) (sym (add-one i))

-- ---- the same bits

pub word_of-same : (f g : ℕ → Bool) (k : ℕ) → ((i : ℕ) → i < k → f i ≡ g i) → word_of f k ≡ word_of g k
unfolding word_of
word_of-same f g zero h = refl
word_of-same f g (suc k) h =
    ap₂ (λ (x : ℕ) (b : Bool). x + bit b * 2 ^ k) (word_of-same f g k (λ i l. h i (omega arith))) (h k (omega arith))

-- bits at the top that are 0
pub word_of-top : (f : ℕ → Bool) (k j : ℕ) → ((i : ℕ) → k ≤ i → i < k + j → f i ≡ false) → word_of f (k + j) ≡ word_of f k
unfolding word_of
word_of-top f k zero h = ap (word_of f) (add-zero k)
word_of-top f k (suc j) h =
    let none : f (k + j) ≡ false = h (k + j) (omega arith) (omega arith) in
    let rest : word_of f (k + j) ≡ word_of f k = word_of-top f k j (λ i a b. h i a (omega arith)) in
    ap (word_of f) (add-suc k j) ∙ ap (λ (b : Bool). word_of f (k + j) + bit b * 2 ^ (k + j)) none ∙ omega arith

-- ---- one bit

-- bit i is told by the digits below any k above i
bit_at-low : (n m i k : ℕ) → i < k → n % 2 ^ k ≡ m % 2 ^ k → bit_at n i ≡ bit_at m i
bit_at-low n m i k h e =
    let s : (k - (1 + i)) + (1 + i) ≡ k = omega arith in
    let below : (x : ℕ) → x % 2 ^ k % 2 ^ (1 + i) ≡ x % 2 ^ (1 + i) =
    λ x. subst (λ (j : ℕ). x % 2 ^ j % 2 ^ (1 + i) ≡ x % 2 ^ (1 + i)) s (mod-mod-pow x (k - (1 + i)) (1 + i)) in
    sym (field n 1 i) ∙ ap (λ (x : ℕ). x / 2 ^ i) (sym (below n) ∙ ap (λ (x : ℕ). x % 2 ^ (1 + i)) e ∙ below m) ∙ field m 1 i

pub word_of-bit : (f : ℕ → Bool) (k i : ℕ) → i < k → bit_at (word_of f k) i ≡ bit (f i)
unfolding word_of
word_of-bit f zero i h = absurd (not-suc-le-zero h)
word_of-bit f (suc k) i h =
    let n = word_of f k + bit (f k) * 2 ^ k in
    let c : n ≡ bit (f k) * 2 ^ k + word_of f k = add_comm (word_of f k) (bit (f k) * 2 ^ k) in
    let lt : word_of f k < 2 ^ k = word_of-lt f k in
    ⊎_elim
    (λ (q : i ≡ k).
    subst (λ (j : ℕ). bit_at n j ≡ bit (f j)) (sym q)
    (ap (λ (x : ℕ). bit_at x k) c ∙ ap (λ (x : ℕ). x % 2) (high (bit (f k)) k lt) ∙ mod-eq_of_lt (bit-lt (f k))))
    (λ (l : i < k).
    bit_at-low n (word_of f k) i k l (ap (λ (x : ℕ). x % 2 ^ k) c ∙ low (bit (f k)) k lt ∙ sym (mod-eq_of_lt lt)) ∙ word_of-bit f k i l)
    (eq-or-lt_of_le (le_of_suc-le-suc h))

-- the low digits of a number, from its bits
pub word_of-of-bits : (word k : ℕ) (f : ℕ → Bool) → ((i : ℕ) → i < k → bit_at word i ≡ bit (f i)) → word % 2 ^ k ≡ word_of f k
unfolding word_of
word_of-of-bits word zero f h = omega (arith, mod-lt word (pow_pos 0))
word_of-of-bits word (suc k) f h =
    ap (λ (j : ℕ). word % 2 ^ j) (sym (one-add k)) ∙ mod-pow-add word 1 k
    ∙ add_comm ((word / 2 ^ k % 2) * 2 ^ k) (word % 2 ^ k)
    ∙ ap₂ (λ (x y : ℕ). x + y * 2 ^ k) (word_of-of-bits word k f (λ i l. h i (omega arith))) (h k (omega arith))
