-- binary32's `round` in units of 2 ^ -149: what `rounded a c` is, that it does not overflow, keeps the order, changes nothing at a value of
-- the format, and how far it is off.
use mathlib.Core.Path.{◌≡◌, refl, sym, ap, ◌∙◌, subst}
use mathlib.Core.Logic.{inl, inr}
use Prim.Native.Nat.{ℕ, ◌+◌, ◌*◌, ◌^◌, ◌≤◌, ◌<◌, zero-le}
use native.Mathlib.Nat.{lt_of_le_of_lt, zero-mul, mul_right_comm, mul-le-mul_right, le_of_mul-le-mul_right, eq_of_mul-eq-mul_right, mul-pos, eq-zero-or-pos}
use native.Mathlib.Omega.{arith}
use mathlib.Core.Bool.{Bool, true, false}
use lib.Dec.{T, lit≤, lit<}
use lib.Ieee.{Float, nan, inf, fin, binary32, up, down, round, le}
use lib.Ieee.Fits.{round_is, down_pos}
use lib.Ieee.Exact.{HasValue, units_val, round_exact}
use lib.Ieee.Order.{drop, kept, round_mono}
use lib.Ieee.Scale.{grid}
use lib.Ieee.Positive.{positive, above, above_of_le, positive_of_value, values_of_le}
use Rattle.rounding.proofs.Nearness.{Near, ulps, near-cancel}
use Rattle.rounding.proofs.RoundingError.{kept-apart, kept-apart-whole}

-- ---- what is counted

-- 1.0 in units. Shut, so that `omega` takes it as an unknown.
unfoldable pub units_of_one : ℕ
units_of_one = 2 ^ 149

-- 2 ^ 127 in units: no exact result up to it overflows
unfoldable pub safe_units : ℕ
safe_units = 2 ^ 276

-- 2 ^ -126 in units, the smallest normal value: below it an f32 has fewer than 24 digits
abbrev pub normal_units : ℕ
normal_units = 8388608

-- x is finite, negative where `minus` says so, and that many units in size
abbrev pub HasUnits : Float → Bool → ℕ → Type 0
HasUnits x minus units = HasValue x minus units units_of_one

-- the fraction a / c, rounded, in units
unfoldable pub rounded : ℕ → ℕ → ℕ
rounded a c = grid binary32 a c

-- a sum of so many units, rounded; and a product a of two numbers of units, which is a / 2 ^ 149 units
abbrev pub rounded_sum : ℕ → ℕ
rounded_sum units = rounded units units_of_one

abbrev pub rounded_product : ℕ → ℕ
rounded_product a = rounded a (units_of_one * units_of_one)

-- a / c is at most 2 ^ 127
abbrev pub Safe : ℕ → ℕ → Type 0
Safe a c = a * units_of_one ≤ safe_units * c

abbrev pub SafeProduct : ℕ → Type 0
SafeProduct a = Safe a (units_of_one * units_of_one)

-- a number of units that is the size of an f32: at most 24 digits, and zeros
pub record Representable (units : ℕ) : Type 0 where
  pub digits : ℕ
  pub zeros : ℕ
  pub digits_lt : digits < ulps
  pub written : units ≡ digits * 2 ^ zeros

-- ---- the constants, by size

pub one-pos : 0 < units_of_one
unfolding units_of_one
one-pos = lit< tt

pub one-large : 2 ^ 100 ≤ units_of_one
unfolding units_of_one
one-large = lit≤ tt

pub safe-large : 2 ^ 100 * units_of_one ≤ safe_units
unfolding units_of_one safe_units
safe-large = lit≤ tt

pub one-safe : units_of_one ≤ safe_units
unfolding units_of_one safe_units
one-safe = lit≤ tt

pub one-representable : Representable units_of_one
unfolding units_of_one
one-representable = record { digits = 1; zeros = 149; digits_lt = lit< tt; written = refl }

safe-pos : 0 < safe_units
unfolding safe_units
safe-pos = lit< tt

normal-safe : normal_units ≤ safe_units
unfolding safe_units
normal-safe = lit≤ tt

safe-under-top : (units : ℕ) → units ≤ safe_units → units < 2 ^ 277
unfolding safe_units
safe-under-top units h = lt_of_le_of_lt h (lit< tt)

-- ---- how far it is off

-- by at most m / 2 ^ 24, for an m that is at least a / c and at least the smallest normal value, all times c
pub rounded-near : (a c m : ℕ) → 0 < c → a * units_of_one ≤ m → normal_units * c ≤ m → Near (rounded a c * c) (a * units_of_one) m
unfolding rounded units_of_one
rounded-near a c m some h k = kept-apart 24 (a * 2 ^ 149) c m (lit< tt) some h k

-- by at most 2 ^ -24 of itself where it is a whole number of units
pub rounded-near-whole : (a c units : ℕ) → 0 < c → a * units_of_one ≡ units * c → Near (rounded a c) units units
unfolding rounded units_of_one
rounded-near-whole a c units some e =
    subst (λ (z : ℕ). Near (kept 24 z c * 2 ^ drop 24 z c) units units) (sym e) (kept-apart-whole 24 units c (lit< tt) some)

-- the three forms in which sums and differences, products and quotients of units meet it
pub sum_near : (units : ℕ) → Near (rounded_sum units) units units
sum_near units = rounded-near-whole units units_of_one units one-pos refl

pub quotient-near : (a c : ℕ) → 0 < c → Near (rounded a c * c) (a * units_of_one) (a * units_of_one + normal_units * c)
quotient-near a c some = rounded-near a c (a * units_of_one + normal_units * c) some (omega arith) (omega arith)

pub product-near : (a : ℕ) → Near (rounded_product a * units_of_one) a (a + normal_units * units_of_one)
product-near a = cut (rounded_product a) units_of_one one-pos (quotient-near a (units_of_one * units_of_one) (mul-pos one-pos one-pos))
  where
    cut : (r one : ℕ) → 0 < one → Near (r * (one * one)) (a * one) (a * one + normal_units * (one * one))
        → Near (r * one) a (a + normal_units * one)
    cut r one some near = near-cancel (r * one) a (a + normal_units * one) one some (omega arith)

-- ---- no overflow

rounded-lt : (a c : ℕ) → 0 < c → Safe a c → rounded a c < 2 * safe_units
rounded-lt a c some safe =
    under (rounded a c) (a * units_of_one) safe_units safe-pos safe
    (rounded-near a c (safe_units * c) some safe (mul-le-mul_right c normal-safe))
  where
    under : (r n m : ℕ) → 0 < m → n ≤ m * c → Near (r * c) n (m * c) → r < 2 * m
    under r n m M h near =
        let bound : r * ulps ≤ m * (ulps + 1) = le_of_mul-le-mul_right {k = c} (omega arith) some in
        omega arith

pub round-units : (s : Bool) (a c : ℕ) → 0 < c → Safe a c → HasUnits (round binary32 s a c) s (rounded a c)
unfolding rounded units_of_one safe_units
round-units s a c some safe =
    subst (λ (z : Float). HasValue z s (grid binary32 a c) (2 ^ 149)) (sym (round_is binary32 s a c))
    (units_val binary32 s (kept 24 (a * 2 ^ 149) c) (drop 24 (a * 2 ^ 149) c) (rounded-lt a c some safe))

-- ---- it keeps the order

positive-above : (y : Float) (a c : ℕ) → HasValue y false a c → T (above y) → T (positive y)
positive-above nan a c h t = absurd h
positive-above (inf s) a c h t = absurd h
positive-above (fin true m e) a c h t = absurd t
positive-above (fin false m e) a c h t = t

pub rounded-mono : (a b c d : ℕ) → 0 < b → 0 < d → Safe a b → Safe c d → a * d ≤ c * b → rounded a b ≤ rounded c d
rounded-mono a b c d some_b some_d safe_a safe_c h =
    elim (eq-zero-or-pos (rounded a b)) [
      | inl z ↦ subst (λ (x : ℕ). x ≤ rounded c d) (sym z) zero-le
      | inr p ↦
          let x = round binary32 false a b in
          let y = round binary32 false c d in
          let vx : HasUnits x false (rounded a b) = round-units false a b some_b safe_a in
          let vy : HasUnits y false (rounded c d) = round-units false c d some_d safe_c in
          let px : T (positive x) = positive_of_value x (rounded a b) units_of_one vx p in
          let l : T (le x y) = round_mono binary32 a b c d some_b some_d h in
          let py : T (positive y) = positive-above y (rounded c d) units_of_one vy (above_of_le x y px l) in
          le_of_mul-le-mul_right (values_of_le x y (rounded a b) units_of_one (rounded c d) units_of_one px py vx vy l) one-pos
    ]

-- ---- it changes nothing at a value of the format

-- two fractions of one float are equal
same-fraction : (x : Float) (s : Bool) (a c units : ℕ) → HasValue x s a c → HasUnits x s units → a * units_of_one ≡ units * c
same-fraction nan s a c units h k = absurd h
same-fraction (inf t) s a c units h k = absurd h
same-fraction (fin t m e) s a c units h k =
    eq_of_mul-eq-mul_right (down e) (down_pos e) (a * units_of_one) (units * c)
    (mul_right_comm a units_of_one (down e)
    ∙ ap (λ (z : ℕ). z * units_of_one) (sym h.1)
    ∙ mul_right_comm (m * up e) c units_of_one
    ∙ ap (λ (z : ℕ). z * c) k.1
    ∙ mul_right_comm units (down e) c)

round_keeps : (a c units : ℕ) → 0 < c → Representable units → units ≤ safe_units → a * units_of_one ≡ units * c
    → HasValue (round binary32 false a c) false a c
unfolding units_of_one
round_keeps a c units some r h e =
    let w = r.digits * 2 ^ r.zeros in
    let top : w < 2 ^ 277 = safe-under-top w (subst (λ (z : ℕ). z ≤ safe_units) r.written h) in
    round_exact binary32 false a c r.digits r.zeros some r.digits_lt top (e ∙ ap (λ (z : ℕ). z * c) r.written)

pub rounded-exact : (a c units : ℕ) → 0 < c → Representable units → units ≤ safe_units → a * units_of_one ≡ units * c → rounded a c ≡ units
rounded-exact a c units some r h e =
    let x = round binary32 false a c in
    let safe : Safe a c = subst (λ (z : ℕ). z ≤ safe_units * c) (sym e) (mul-le-mul_right c h) in
    let kept : HasValue x false a c = round_keeps a c units some r h e in
    let fraction : a * units_of_one ≡ rounded a c * c = same-fraction x false a c (rounded a c) kept (round-units false a c some safe) in
    eq_of_mul-eq-mul_right c some (rounded a c) units (sym fraction ∙ e)

pub rounded-zero : (c : ℕ) → 0 < c → rounded 0 c ≡ 0
rounded-zero c some =
    rounded-exact 0 c 0 some (record { digits = 0; zeros = 0; digits_lt = lit< tt; written = refl }) zero-le
    (zero-mul units_of_one ∙ sym (zero-mul c))
