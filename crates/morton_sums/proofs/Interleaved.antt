-- What the definitions of the axes come to: three numbers go into a word and come back, each modulo 2 to its axis's width, and a word is
-- made of its three numbers. So the numbers on the axes of a sum or a difference are those that document 01 names.
use Rattle.std.proofs.Common.{◌≡◌, ℕ, zero, suc, ◌+◌, ◌-◌, ◌*◌, ◌/◌, ◌%◌, ◌^◌, ◌<◌, sym, refl, ap, ◌∙◌, subst, ap₂, zero-lt-suc, pow-suc, arith, pow_pos}
use native.Mathlib.Nat.{mod-one, mod-mod}
use lib.Arith.{mod-mul}
use Rattle.morton_sums.specs.Interleaved.{thirds, spread, Axis, X, Y, Z, place, width, on_axis, interleave, sum_of, difference_of}
use Rattle.morton_sums.proofs.Digits.{half, lowest, digit_lt}

-- ---- n groups of three bits, and one more bit of x

abbrev count : Axis → ℕ → ℕ
count X n = suc n
count Y n = n
count Z n = n

count-suc : (axis : Axis) (n : ℕ) → count axis (suc n) ≡ suc (count axis n)
count-suc X n = refl
count-suc Y n = refl
count-suc Z n = refl

abbrev word : ℕ → (Axis → ℕ) → ℕ
word n numbers = spread n (numbers Z) * 4 + spread n (numbers Y) * 2 + spread (suc n) (numbers X) * 1

abbrev group : (Axis → ℕ) → ℕ
group digits = digits Z * 4 + digits Y * 2 + digits X

word-suc : (n : ℕ) (numbers : Axis → ℕ) → word (suc n) numbers ≡ word n (λ axis. numbers axis / 2) * 8 + group (λ axis. numbers axis % 2)
unfolding spread
word-suc n numbers = omega arith

-- the bit of an axis in a group, and what stands above
group-bit : (axis : Axis) (v : ℕ) (numbers : Axis → ℕ) → (v * 8 + group (λ a. numbers a % 2)) / 2 ^ place axis % 2 ≡ numbers axis % 2
group-bit X v numbers = omega arith
group-bit Y v numbers = omega arith
group-bit Z v numbers = omega arith

group-above : (axis : Axis) (v : ℕ) (numbers : Axis → ℕ) → (v * 8 + group (λ a. numbers a % 2)) / 2 ^ place axis / 8 ≡ v / 2 ^ place axis
group-above X v numbers = omega arith
group-above Y v numbers = omega arith
group-above Z v numbers = omega arith

mod-suc : (k n : ℕ) → n / 2 % 2 ^ k * 2 + n % 2 ≡ n % 2 ^ suc k
mod-suc k n = sym (ap (λ (x : ℕ). n % x) (pow-suc 2 k) ∙ mod-mul n (pow_pos k) (zero-lt-suc 1))

-- ---- numbers, a word, and back

thirds-word : (axis : Axis) (n : ℕ) (numbers : Axis → ℕ) → thirds (count axis n) (word n numbers / 2 ^ place axis) ≡ numbers axis % 2 ^ count axis n
unfolding thirds spread
thirds-word X zero numbers = omega arith
thirds-word Y zero numbers = sym (mod-one (numbers Y))
thirds-word Z zero numbers = sym (mod-one (numbers Z))
thirds-word axis (suc n) numbers =
    let k = count axis n in
    let v = word n (λ a. numbers a / 2) in
    ap₂ (λ (m w : ℕ). thirds m (w / 2 ^ place axis)) (count-suc axis n) (word-suc n numbers)
    ∙ ap₂ (λ (x y : ℕ). thirds k x * 2 + y) (group-above axis v numbers) (group-bit axis v numbers)
    ∙ ap (λ (x : ℕ). x * 2 + numbers axis % 2) (thirds-word axis n (λ a. numbers a / 2))
    ∙ mod-suc k (numbers axis)
    ∙ ap (λ (m : ℕ). numbers axis % 2 ^ m) (sym (count-suc axis n))

pub on_axis-interleave : (axis : Axis) (numbers : Axis → ℕ) → on_axis axis (interleave numbers) ≡ numbers axis % 2 ^ width axis
on_axis-interleave X numbers = thirds-word X 21 numbers
on_axis-interleave Y numbers = thirds-word Y 21 numbers
on_axis-interleave Z numbers = thirds-word Z 21 numbers

pub on_axis-sum : (axis : Axis) (a b : ℕ) → on_axis axis (sum_of a b) ≡ (on_axis axis a + on_axis axis b) % 2 ^ width axis
on_axis-sum axis a b = on_axis-interleave axis (λ x. (on_axis x a + on_axis x b) % 2 ^ width x) ∙ mod-mod (on_axis axis a + on_axis axis b) (2 ^ width axis)

pub on_axis-difference : (axis : Axis) (a b : ℕ) → on_axis axis (difference_of a b) ≡ (on_axis axis a + 2 ^ width axis - on_axis axis b) % 2 ^ width axis
on_axis-difference axis a b =
    on_axis-interleave axis (λ x. (on_axis x a + 2 ^ width x - on_axis x b) % 2 ^ width x) ∙ mod-mod (on_axis axis a + 2 ^ width axis - on_axis axis b) (2 ^ width axis)

-- ---- a word is made of its numbers

abbrev numbers_of : ℕ → ℕ → Axis → ℕ
numbers_of n key axis = thirds (count axis n) (key / 2 ^ place axis)

swap : (axis : Axis) (key : ℕ) → key / 2 ^ place axis / 8 ≡ key / 8 / 2 ^ place axis
swap X key = omega arith
swap Y key = omega arith
swap Z key = omega arith

module _ (n key : ℕ) (axis : Axis) where
  unrolled : numbers_of (suc n) key axis ≡ thirds (count axis n) (key / 2 ^ place axis / 8) * 2 + key / 2 ^ place axis % 2
  unfolding thirds
  unrolled = ap (λ (m : ℕ). thirds m (key / 2 ^ place axis)) (count-suc axis n)

  numbers-half : numbers_of (suc n) key axis / 2 ≡ numbers_of n (key / 8) axis
  numbers-half =
      ap (λ (x : ℕ). x / 2) unrolled ∙ half (thirds (count axis n) (key / 2 ^ place axis / 8)) (digit_lt (key / 2 ^ place axis))
      ∙ ap (thirds (count axis n)) (swap axis key)

  numbers-lowest : numbers_of (suc n) key axis % 2 ≡ key / 2 ^ place axis % 2
  numbers-lowest = ap (λ (x : ℕ). x % 2) unrolled ∙ lowest (thirds (count axis n) (key / 2 ^ place axis / 8)) (digit_lt (key / 2 ^ place axis))

fourth : (key : ℕ) → key / 2 / 2 ≡ key / 4
fourth key = omega arith

eighth : (key : ℕ) → key / 4 / 2 ≡ key / 8
eighth key = omega arith

-- a word as its lowest group and the rest
grouped : (key : ℕ) → key / 8 * 8 + group (λ axis. key / 2 ^ place axis % 2) ≡ key
grouped key = omega (arith, fourth key, eighth key)

word-numbers : (n key : ℕ) → key < 2 * 8 ^ n → word n (numbers_of n key) ≡ key
unfolding spread thirds
word-numbers zero key h = omega arith
word-numbers (suc n) key h =
    word-suc n (numbers_of (suc n) key)
    ∙ ap (λ (f : Axis → ℕ). word n f * 8 + group (λ axis. numbers_of (suc n) key axis % 2)) (λ i axis. numbers-half n key axis i)
    ∙ ap (λ (f : Axis → ℕ). word n (numbers_of n (key / 8)) * 8 + group f) (λ i axis. numbers-lowest n key axis i)
    ∙ ap (λ (x : ℕ). x * 8 + group (λ axis. key / 2 ^ place axis % 2)) (word-numbers n (key / 8) (less (8 ^ n) (subst (λ (x : ℕ). key < 2 * x) (pow-suc 8 n) h)))
    ∙ grouped key
  where
    less : (p : ℕ) → key < 2 * (p * 8) → key / 8 < 2 * p
    less p l = omega arith

pub interleave-on_axis : (key : ℕ) → key < 2 ^ 64 → interleave (λ axis. on_axis axis key) ≡ key
interleave-on_axis key h = word-numbers 21 key h
