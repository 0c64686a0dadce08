-- On which side of zero a value is, whatever sign a zero bears, and what a comparison with zero says of it.
use mathlib.Core.Path.{◌≡◌, refl, sym, ap, ◌∙◌, subst}
use mathlib.Core.Logic.{◌⊎◌, inl, inr}
use Prim.Native.Nat.{ℕ, ◌+◌, ◌*◌, ◌≤◌, ◌<◌}
use native.Mathlib.Nat.{le_of_eq, not-le_of_lt, lt_irrefl, zero-mul, mul-one, mul-pos, mul-le-mul_right, eq-or-lt_of_le, eq-zero-or-pos}
use native.Mathlib.Omega.{arith}
use mathlib.Core.Bool.{Bool, true, false, not, ◌&&◌, ◌||◌, beq}
use lib.IntN.{pos}
use lib.Dec.{T, ltb, eqb, ltb→lt, lt→ltb, eqb→eq, T_not}
use lib.Ieee.{Float, nan, inf, fin, up, down, neg, below, level, eq, le}
use lib.Ieee.Fits.{down_pos, eq→eqb, and_l}
use lib.Ieee.Order.{transfer}
use lib.Ieee.Positive.{first_pos}
use lib.Ieee.Scale.{finite}
use Rattle.rounding.proofs.Units.{units_of_one, HasUnits, one-pos}

-- x is `units` from zero on the side `minus`; a zero may bear either sign
pub record OnSide (minus : Bool) (x : Float) (units : ℕ) : Type 0 where
  pub sign : Bool
  pub value : HasUnits x sign units
  pub side : (sign ≡ minus) ⊎ (units ≡ 0)

pub side-of-units : (s : Bool) (x : Float) (u : ℕ) → HasUnits x s u → OnSide s x u
side-of-units s x u h = record { sign = s; value = h; side = inl refl }

pub side-of-zero : (s t : Bool) (x : Float) (u : ℕ) → HasUnits x s u → u ≡ 0 → OnSide t x u
side-of-zero s t x u h z = record { sign = s; value = h; side = inr z }

pub units-of-side : (s : Bool) (x : Float) (u : ℕ) → OnSide s x u → 0 < u → HasUnits x s u
units-of-side s x u o p =
    elim o.side [
      | inl e ↦ subst (λ (t : Bool). HasUnits x t u) e o.value
      | inr z ↦ absurd (lt_irrefl 0 (subst (λ (v : ℕ). 0 < v) z p))
    ]

pub finite-of-units : (x : Float) (s : Bool) (u : ℕ) → HasUnits x s u → T (finite x)
finite-of-units nan s u h = absurd h
finite-of-units (inf t) s u h = absurd h
finite-of-units (fin t m e) s u h = tt

pub neg-units : (x : Float) (s : Bool) (u : ℕ) → HasUnits x s u → HasUnits (neg x) (not s) u
unfolding neg
neg-units nan s u h = h
neg-units (inf t) s u h = h
neg-units (fin t m e) s u h = (ap not h.0, h.1)

pub neg-side : (s : Bool) (x : Float) (u : ℕ) → OnSide s x u → OnSide (not s) (neg x) u
neg-side s x u o =
    record {
      sign = not o.sign;
      value = neg-units x o.sign u o.value;
      side = elim o.side [ inl e ↦ inl (ap not e) | inr z ↦ inr z ];
    }

-- ---- comparisons

-- as many units, as large a fraction
pub fraction-pos : (x u d : ℕ) → 0 < u → 0 < d → x * units_of_one ≡ u * d → 0 < x
fraction-pos x u d p q h = first_pos x units_of_one (subst (λ (z : ℕ). 0 < z) (sym h) (mul-pos p q))

fraction-zero : (x u d : ℕ) → u ≡ 0 → x * units_of_one ≡ u * d → x ≡ 0
fraction-zero x u d z h =
    elim (eq-zero-or-pos x) [
      | inl y ↦ y
      | inr p ↦ absurd (not-le_of_lt (mul-pos p one-pos) (le_of_eq (h ∙ ap (λ (w : ℕ). w * d) z ∙ zero-mul d)))
    ]

units-zero : (x u d : ℕ) → 0 < d → x ≡ 0 → x * units_of_one ≡ u * d → u ≡ 0
units-zero x u d q z h =
    elim (eq-zero-or-pos u) [
      | inl y ↦ y
      | inr p ↦ absurd (lt_irrefl 0 (subst (λ (w : ℕ). 0 < w) z (fraction-pos x u d p q h)))
    ]

-- zeros are level, whatever their signs
zeros-level : (s t : Bool) (a b : ℕ) → a ≡ 0 → b ≡ 0 → T (below s a t b || level s a t b)
zeros-level s t a b p q =
    subst (λ (x : ℕ). T (below s x t b || level s x t b)) (sym p)
    (subst (λ (x : ℕ). T (below s 0 t x || level s 0 t x)) (sym q) (go s t))
  where
    go : (s t : Bool) → T (below s 0 t 0 || level s 0 t 0)
    go true true = tt
    go true false = tt
    go false true = tt
    go false false = tt

or_left : (a b : Bool) → T a → T (a || b)
or_left true b t = tt
or_left false b t = absurd t

or_cases : (a b : Bool) → T (a || b) → T a ⊎ T b
or_cases true b t = inl tt
or_cases false b t = inr t

-- of two values that are not below zero
not-below : (s t : Bool) (a b : ℕ) → (s ≡ false) ⊎ (a ≡ 0) → (t ≡ false) ⊎ (b ≡ 0) → a ≤ b → T (below s a t b || level s a t b)
not-below s t a b p (inr z) h = zeros-level s t a b (none a b z h) z
  where
    none : (a b : ℕ) → b ≡ 0 → a ≤ b → a ≡ 0
    none a b z h = omega arith
not-below false false a b p (inl r) h =
    elim (eq-or-lt_of_le h) [
      | inl e ↦ or_right (ltb a b) (eqb a b) (eq→eqb e)
      | inr l ↦ or_left (ltb a b) (level false a false b) (lt→ltb a b l)
    ]
  where
    or_right : (x y : Bool) → T y → T (x || (y && true))
    or_right true y t = tt
    or_right false true t = tt
    or_right false false t = absurd t
not-below s true a b p (inl r) h = absurd (subst T r tt)
not-below true false a b (inl q) (inl r) h = absurd (subst T q tt)
not-below true false a b (inr z) (inl r) h =
    elim (eq-zero-or-pos b) [
      | inl y ↦ zeros-level true false a b z y
      | inr p ↦ or_left (ltb 0 (a + b)) (level true a false b) (lt→ltb 0 (a + b) (omega arith))
    ]

pub le-of-side : (x y : Float) (a b : ℕ) → OnSide false x a → OnSide false y b → a ≤ b → T (le x y)
unfolding le
le-of-side nan y a b o p h = absurd o.value
le-of-side (inf s) y a b o p h = absurd o.value
le-of-side (fin s m e) nan a b o p h = absurd p.value
le-of-side (fin s m e) (inf t) a b o p h = absurd p.value
le-of-side (fin s m e) (fin t n d) a b o p h =
    let x = o.value.1 in
    let y = p.value.1 in
    let first = fraction-zero (m * up e) a (down e) in
    let second = fraction-zero (n * up d) b (down d) in
    not-below s t (m * up e * down d) (n * up d * down e)
    (elim o.side [ inl q ↦ inl (o.value.0 ∙ q) | inr z ↦ inr (times_zero (m * up e) (down d) (first z x)) ])
    (elim p.side [ inl q ↦ inl (p.value.0 ∙ q) | inr z ↦ inr (times_zero (n * up d) (down e) (second z y)) ])
    (transfer (m * up e) (n * up d) (down e) (down d) a b units_of_one units_of_one one-pos one-pos x y (mul-le-mul_right units_of_one h))
  where
    times_zero : (x d : ℕ) → x ≡ 0 → x * d ≡ 0
    times_zero x d z = ap (λ (w : ℕ). w * d) z ∙ zero-mul d

-- ---- comparisons with 0.0

abbrev pub plus_zero : Float
plus_zero = fin false 0 (pos 0)

pub not-equal-zero : (x : Float) (s : Bool) (u : ℕ) → HasUnits x s u → 0 < u → eq x plus_zero ≡ false
unfolding eq
not-equal-zero nan s u h p = absurd h
not-equal-zero (inf t) s u h p = absurd h
not-equal-zero (fin t m e) s u h p =
    go (eqb (m * up e * 1) (0 * down e)) (beq t false || eqb (m * up e * 1) 0) (eqb→eq (m * up e * 1) (0 * down e))
  where
    clash : (x d : ℕ) → 0 < x → x * 1 ≡ 0 * d → ⊥
    clash x d p e = omega arith

    go : (b c : Bool) → (T b → m * up e * 1 ≡ 0 * down e) → b && c ≡ false
    go true c f = absurd (clash (m * up e) (down e) (fraction-pos (m * up e) u (down e) p (down_pos e) h.1) (f tt))
    go false c f = refl

-- a value that is not <= 0.0 is above zero
pub above_zero : (x : Float) (s : Bool) (u : ℕ) → HasUnits x s u → T (not (le x plus_zero)) → HasUnits x false u × (0 < u)
unfolding le
above_zero nan s u h t = absurd h
above_zero (inf r) s u h t = absurd h
above_zero (fin true m e) s u h t = absurd (T_not (le (fin true m e) plus_zero) t (negative (m * up e * 1) (0 * down e) (zero-mul (down e))))
  where
    negative : (x y : ℕ) → y ≡ 0 → T (below true x false y || level true x false y)
    negative x y z =
        elim (eq-zero-or-pos x) [
          | inl w ↦ zeros-level true false x y w z
          | inr p ↦ or_left (ltb 0 (x + y)) (level true x false y) (lt→ltb 0 (x + y) (omega arith))
        ]
above_zero (fin false m e) s u h t =
    elim (eq-zero-or-pos u) [
      | inl z ↦
          let none : m * up e * 1 ≡ 0 = mul-one (m * up e) ∙ fraction-zero (m * up e) u (down e) z h.1 in
          absurd (T_not (le (fin false m e) plus_zero) t (zeros-level false false (m * up e * 1) (0 * down e) none (zero-mul (down e))))
      | inr p ↦ ((refl, h.1), p)
    ]

-- a value that is <= 0.0 is not above zero
pub upto_zero : (x : Float) (s : Bool) (u : ℕ) → HasUnits x s u → T (le x plus_zero) → OnSide true x u
unfolding le
upto_zero nan s u h t = absurd h
upto_zero (inf r) s u h t = absurd h
upto_zero (fin true m e) s u h t = side-of-units true (fin true m e) u (refl, h.1)
upto_zero (fin false m e) s u h t =
    side-of-zero s true (fin false m e) u h
    (units-zero (m * up e) u (down e) (down_pos e) (flat (m * up e) (down e) (at_most (m * up e * 1) (0 * down e) t)) h.1)
  where
    at_most : (x y : ℕ) → T (ltb x y || (eqb x y && true)) → x ≤ y
    at_most x y t =
        elim (or_cases (ltb x y) (eqb x y && true) t) [
          | inl u ↦ (let p : x < y = ltb→lt x y u in omega arith)
          | inr u ↦ le_of_eq (eqb→eq x y (and_l (eqb x y) true u))
        ]

    flat : (x d : ℕ) → x * 1 ≤ 0 * d → x ≡ 0
    flat x d h = omega arith
