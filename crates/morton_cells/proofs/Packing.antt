-- Digits to the base p that stand three places apart, moved together by three: what two shifts do to them, as `coordinate` makes them for
-- p = 2, 8 and 512. One law over the base.
use mathlib.Core.Path.{◌≡◌, refl, sym, ap, ap₂, ◌∙◌, subst}
use mathlib.Core.Bool.{Bool, true, ◌&&◌}
use Prim.Native.Nat.{ℕ, zero, suc, ◌+◌, ◌*◌, ◌/◌, ◌%◌, ◌^◌, ◌≤◌, ◌<◌}
use native.Mathlib.Nat.{le_trans, lt_of_lt_of_le, lt_of_le_of_lt, mod-lt, div-add-mod', div-div-eq-div-mul, mul_comm, mul_assoc, mul-pos, mul-le-mul_left, mul-lt-mul_of_pos_right}
use native.Mathlib.Omega.{arith}
use lib.Dec.{T, ltb, ltb→lt, lt→ltb}
use lib.Arith.{digits_lt, digits_div, digits_mod}
use lib.Pow.{pow-add, pow_pos}
use lib.Bits.{bit_and, bit_or, and_block, and_shr, and_mod, and_le_r, or_shr, or_mod, or_shifted_r}
use lib.Ieee.Fits.{and_l, and_r, and_i}

-- n digits, every third one, as one number
unfoldable pub pack : ℕ → ℕ → ℕ → ℕ
pack p zero word = 0
pack p (suc n) word = pack p n (word / (p * p * p)) * p + word % p

-- in n groups of three digits only the lowest is not 0
unfoldable pub sparse : ℕ → ℕ → ℕ → Bool
sparse p zero word = true
sparse p (suc n) word = ltb (word % (p * p * p)) p && sparse p n (word / (p * p * p))

abbrev pub folded : ℕ → ℕ → ℕ
folded p word = bit_or (bit_or word (word / (p * p))) (word / (p * p * p * p))

unfoldable pub thrice : ℕ → ℕ
thrice zero = 0
thrice (suc n) = suc (suc (suc (thrice n)))

-- ---- masks

cube : (w : ℕ) → 2 ^ (w + w + w) ≡ 2 ^ w * 2 ^ w * 2 ^ w
cube w = pow-add 2 (w + w) w ∙ ap (λ (x : ℕ). x * 2 ^ w) (pow-add 2 w w)

module _ (w : ℕ) where
  abbrev p : ℕ
  p = 2 ^ w

  and-cube-div : (a b : ℕ) → bit_and a b / (p * p * p) ≡ bit_and (a / (p * p * p)) (b / (p * p * p))
  and-cube-div a b = subst (λ (m : ℕ). bit_and a b / m ≡ bit_and (a / m) (b / m)) (cube w) (and_shr a b (w + w + w))

  and-cube-mod : (a b : ℕ) → bit_and a b % (p * p * p) ≡ bit_and (a % (p * p * p)) (b % (p * p * p))
  and-cube-mod a b = subst (λ (m : ℕ). bit_and a b % m ≡ bit_and (a % m) (b % m)) (cube w) (and_mod a b (w + w + w))

  pub pack-masked : (n word m : ℕ) → pack p n (bit_and word m) ≡ bit_and (pack p n word) (pack p n m)
  unfolding pack
  pack-masked zero word m = refl
  pack-masked (suc n) word m =
      ap₂ (λ (x y : ℕ). pack p n x * p + y) (and-cube-div word m) (and_mod word m w)
      ∙ ap (λ (x : ℕ). x * p + bit_and (word % p) (m % p)) (pack-masked n (word / (p * p * p)) (m / (p * p * p)))
      ∙ sym (and_block w (pack p n (word / (p * p * p))) (pack p n (m / (p * p * p))) (word % p) (m % p) (mod-lt word (pow_pos w)) (mod-lt m (pow_pos w)))

  pub sparse-masked : (n word m : ℕ) → T (sparse p n m) → T (sparse p n (bit_and word m))
  unfolding sparse
  sparse-masked zero word m t = tt
  sparse-masked (suc n) word m t =
      let q = p * p * p in
      let low : m % q < p = ltb→lt (m % q) p (and_l (ltb (m % q) p) (sparse p n (m / q)) t) in
      let rest : T (sparse p n (m / q)) = and_r (ltb (m % q) p) (sparse p n (m / q)) t in
      and_i (ltb (bit_and word m % q) p) (sparse p n (bit_and word m / q))
      (lt→ltb (bit_and word m % q) p (subst (λ (x : ℕ). x < p) (sym (and-cube-mod word m)) (lt_of_le_of_lt (and_le_r (word % q) (m % q)) low)))
      (subst (λ (x : ℕ). T (sparse p n x)) (sym (and-cube-div word m)) (sparse-masked n (word / q) (m / q) rest))

-- ---- groups of three digits to the base p: of each only the lowest is not 0

-- the quotient by a part of the divisor, and the remainder of a multiple
scale-div : (x q k m : ℕ) → q ≡ k * m → x % q < m → x / m ≡ x / q * k
scale-div x q k m e h =
    ap (λ (z : ℕ). z / m) (sym (div-add-mod' x q) ∙ ap (λ (z : ℕ). x / q * z + x % q) e ∙ ap (λ (z : ℕ). z + x % q) (sym (mul_assoc (x / q) k m)))
    ∙ digits_div (x / q * k) h

scale-mod : (x q k : ℕ) → x % q * k < q → x * k % q ≡ x % q * k
scale-mod x q k h =
    ap (λ (z : ℕ). z % q) (ap (λ (z : ℕ). z * k) (sym (div-add-mod' x q)) ∙ spread-out (x / q) q (x % q) k)
    ∙ digits_mod (x / q * k) h
  where
    spread-out : (a b c d : ℕ) → (a * b + c) * d ≡ a * d * b + c * d
    spread-out a b c d = omega arith

module _ (p : ℕ) (p-pos : 0 < p) where
  abbrev q : ℕ
  q = p * p * p

  square_le : p * p ≤ q
  square_le = le_trans (omega arith) (mul-le-mul_left (p * p) p-pos)

  one_up : (d : ℕ) → d < p → d * p < q
  one_up d h = lt_of_lt_of_le (mul-lt-mul_of_pos_right h p-pos) square_le

  two_up : (d : ℕ) → d < p → d * (p * p) < q
  two_up d h = lt_of_lt_of_le (mul-lt-mul_of_pos_right h (mul-pos p-pos p-pos)) (omega arith)

  le-square : p ≤ p * p
  le-square = le_trans (omega arith) (mul-le-mul_left p p-pos)

  -- the second and the third digit, after their shifts
  second : (u : ℕ) → u % q < p → u / q % q < p → u / (p * p) % q ≡ u / q % q * p
  second u h l =
      ap (λ (z : ℕ). z % q) (scale-div u q p (p * p) (omega arith) (lt_of_lt_of_le h le-square))
      ∙ scale-mod (u / q) q p (one_up (u / q % q) l)

  third : (u : ℕ) → u / q % q < p → u / q / q % q < p → u / (q * p) % q ≡ u / q / q % q * (p * p)
  third u h l =
      ap (λ (z : ℕ). z % q) (sym (div-div-eq-div-mul u q p) ∙ scale-div (u / q) q (p * p) p refl h)
      ∙ scale-mod (u / q / q) q (p * p) (two_up (u / q / q % q) l)

-- ---- the law

digits-together : (x p a b c : ℕ) → ((x * p + c) * p + b) * p + a ≡ x * (p * p * p) + (c * (p * p) + (b * p + a))
digits-together x p a b c = omega arith

module _ (w : ℕ) where
  abbrev base : ℕ
  base = 2 ^ w

  abbrev group : ℕ
  group = base * base * base

  or-group-mod : (a b : ℕ) → bit_or a b % group ≡ bit_or (a % group) (b % group)
  or-group-mod a b = subst (λ (m : ℕ). bit_or a b % m ≡ bit_or (a % m) (b % m)) (cube w) (or_mod a b (w + w + w))

  -- three digits that stand at their places are one number
  or_digits : (a b c : ℕ) → a < base → b < base → bit_or (bit_or a (b * base)) (c * (base * base)) ≡ c * (base * base) + (b * base + a)
  or_digits a b c ha hb =
      ap (λ (x : ℕ). bit_or x (c * (base * base))) (or_shifted_r b w a ha)
      ∙ subst (λ (m : ℕ). b * base + a < m → bit_or (b * base + a) (c * m) ≡ c * m + (b * base + a)) (pow-add 2 w w)
      (or_shifted_r c (w + w) (b * base + a)) (digits_lt hb ha)

  folded_low : (u : ℕ) → u % group < base → u / group % group < base → u / group / group % group < base
      → folded base u % group ≡ u / group / group % group * (base * base) + (u / group % group * base + u % group)
  folded_low u h0 h1 h2 =
      or-group-mod (bit_or u (u / (base * base))) (u / (group * base))
      ∙ ap (λ (x : ℕ). bit_or x (u / (group * base) % group)) (or-group-mod u (u / (base * base)))
      ∙ ap₂ (λ (x y : ℕ). bit_or (bit_or (u % group) x) y) (second base (pow_pos w) u h0 h1) (third base (pow_pos w) u h1 h2)
      ∙ or_digits (u % group) (u / group % group) (u / group / group % group) h0 h1

  -- shifts pass each other
  swap-shifts : (u m n : ℕ) → u / m / n ≡ u / n / m
  swap-shifts u m n = div-div-eq-div-mul u m n ∙ ap (λ (x : ℕ). u / x) (mul_comm m n) ∙ sym (div-div-eq-div-mul u n m)

  or-groups-div : (a b : ℕ) → bit_or a b / (group * group * group) ≡ bit_or (a / (group * group * group)) (b / (group * group * group))
  or-groups-div a b =
      let v = w + w + w in
      subst (λ (m : ℕ). bit_or a b / (m * m * m) ≡ bit_or (a / (m * m * m)) (b / (m * m * m))) (cube w)
      (subst (λ (m : ℕ). bit_or a b / m ≡ bit_or (a / m) (b / m)) (cube v) (or_shr a b (v + v + v)))

  folded-high : (u : ℕ) → folded base u / (group * group * group) ≡ folded base (u / group / group / group)
  folded-high u =
      let m = group * group * group in
      or-groups-div (bit_or u (u / (base * base))) (u / (group * base))
      ∙ ap (λ (x : ℕ). bit_or x (u / (group * base) / m)) (or-groups-div u (u / (base * base)))
      ∙ ap₂ (λ (x y : ℕ). bit_or (bit_or (u / m) x) y) (swap-shifts u (base * base) m) (swap-shifts u (group * base) m)
      ∙ ap (folded base) (sym (ap (λ (x : ℕ). x / group) (div-div-eq-div-mul u group group) ∙ div-div-eq-div-mul u (group * group) group))

  low_of : (u : ℕ) → u % group < base → u % base ≡ u % group
  low_of u h =
      ap (λ (x : ℕ). x % base) (sym (div-add-mod' u group) ∙ ap (λ (x : ℕ). x + u % group) (sym (mul_assoc (u / group) (base * base) base)))
      ∙ digits_mod (u / group * (base * base)) h

  pub pack-folded : (n u : ℕ) → T (sparse base (thrice n) u) → pack base (thrice n) u ≡ pack group n (folded base u)
  unfolding pack sparse thrice
  pack-folded zero u t = refl
  pack-folded (suc n) u t =
      let k = thrice n in
      let u1 = u / group in
      let u2 = u1 / group in
      let u3 = u2 / group in
      let t0 : T (sparse base (suc (suc k)) u1) = and_r (ltb (u % group) base) (sparse base (suc (suc k)) u1) t in
      let t1 : T (sparse base (suc k) u2) = and_r (ltb (u1 % group) base) (sparse base (suc k) u2) t0 in
      let t2 : T (sparse base k u3) = and_r (ltb (u2 % group) base) (sparse base k u3) t1 in
      let h0 : u % group < base = ltb→lt (u % group) base (and_l (ltb (u % group) base) (sparse base (suc (suc k)) u1) t) in
      let h1 : u1 % group < base = ltb→lt (u1 % group) base (and_l (ltb (u1 % group) base) (sparse base (suc k) u2) t0) in
      let h2 : u2 % group < base = ltb→lt (u2 % group) base (and_l (ltb (u2 % group) base) (sparse base k u3) t1) in
      ap₂ (λ (x y : ℕ). ((pack base k u3 * base + x) * base + y) * base + u % base) (low_of u2 h2) (low_of u1 h1)
      ∙ ap (λ (x : ℕ). ((pack base k u3 * base + u2 % group) * base + u1 % group) * base + x) (low_of u h0)
      ∙ digits-together (pack base k u3) base (u % group) (u1 % group) (u2 % group)
      ∙ ap₂ (λ (x y : ℕ). x * group + y) (pack-folded n u3 t2 ∙ ap (pack group n) (sym (folded-high u))) (sym (folded_low u h0 h1 h2))
