-- The four operations on values in units, by the signs of their operands. `..-units` says the sign of the result as well, `..-side` leaves
-- open which sign a zero bears, and `..-plus` shuts out minus zero.
use mathlib.Core.Path.{◌≡◌, refl, sym, ap, ◌∙◌, subst}
use mathlib.Core.Logic.{◌⊎◌, inl, inr}
use Prim.Native.Nat.{ℕ, ◌+◌, ◌-◌, ◌*◌, ◌≤◌, ◌<◌}
use native.Mathlib.Nat.{zero-mul, mul-zero, mul-le-mul_right, mul-pos, eq-zero-or-pos}
use native.Mathlib.Omega.{arith}
use mathlib.Core.Bool.{Bool, true, false, cond}
use lib.Dec.{T, ltb, ltb→lt, lt→ltb}
use lib.Ieee.{Float, binary32, unlike, round, sum, add, sub, mul, div, neg}
use lib.Ieee.Bits.{is_true}
use Rattle.rounding.proofs.Units.{units_of_one, safe_units, HasUnits, rounded, rounded_sum, rounded_product, Safe, SafeProduct, one-pos, round-units, rounded-zero}
use Rattle.rounding.proofs.Signs.{OnSide, side-of-units, side-of-zero, units-of-side, neg-units}
use Rattle.rounding.proofs.Operands.{mul_is, div_is, add_is}

-- ---- products and quotients

module _ (x y : Float) (s t : Bool) (A B : ℕ) (hx : HasUnits x s A) (hy : HasUnits y t B) where
  pub mul-units : SafeProduct (A * B) → HasUnits (mul binary32 x y) (unlike s t) (rounded_product (A * B))
  mul-units safe =
      subst (λ (z : Float). HasUnits z (unlike s t) (rounded_product (A * B))) (sym (mul_is x y s t A B hx hy))
      (round-units (unlike s t) (A * B) (units_of_one * units_of_one) (mul-pos one-pos one-pos) safe)

  pub div-units : 0 < B → Safe A B → HasUnits (div binary32 x y) (unlike s t) (rounded A B)
  div-units some safe =
      subst (λ (z : Float). HasUnits z (unlike s t) (rounded A B)) (sym (div_is x y s t A B hx hy some)) (round-units (unlike s t) A B some safe)

-- ---- sums and differences

sum-units : (x y : Float) (s t r : Bool) (A B W : ℕ) → HasUnits x s A → HasUnits y t B
    → sum binary32 s A t B units_of_one ≡ round binary32 r W units_of_one
    → W ≤ safe_units
    → HasUnits (add binary32 x y) r (rounded_sum W)
sum-units x y s t r A B W hx hy e safe =
    subst (λ (z : Float). HasUnits z r (rounded_sum W)) (sym (add_is x y s t A B hx hy ∙ e))
    (round-units r W units_of_one one-pos (mul-le-mul_right units_of_one safe))

sum_like : (s : Bool) (A B : ℕ) → sum binary32 s A s B units_of_one ≡ round binary32 s (A + B) units_of_one
unfolding sum
sum_like true A B = refl
sum_like false A B = refl

-- plus A and minus B, for A = B + W
sum_less : (A B W : ℕ) → B + W ≡ A → sum binary32 false A true B units_of_one ≡ round binary32 false W units_of_one
unfolding sum
sum_less A B W e = tested (ltb A B) (ltb→lt A B)
  where
    tested : (less : Bool) → (T less → A < B)
        → cond less (round binary32 true (B - A) units_of_one) (round binary32 false (A - B) units_of_one) ≡ round binary32 false W units_of_one
    tested true k = absurd (let l : A < B = k tt in omega arith)
    tested false k = ap (λ (z : ℕ). round binary32 false z units_of_one) (omega arith)

pub add-units : (x y : Float) (s : Bool) (A B : ℕ) → HasUnits x s A → HasUnits y s B → A + B ≤ safe_units
    → HasUnits (add binary32 x y) s (rounded_sum (A + B))
add-units x y s A B hx hy safe = sum-units x y s s s A B (A + B) hx hy (sum_like s A B) safe

pub add-plus : (x y : Float) (A B : ℕ) → HasUnits x false A → OnSide false y B → A + B ≤ safe_units
    → HasUnits (add binary32 x y) false (rounded_sum (A + B))
add-plus x y A B hx o safe = by_sign o.sign o.value o.side
  where
    by_sign : (t : Bool) → HasUnits y t B → (t ≡ false) ⊎ (B ≡ 0) → HasUnits (add binary32 x y) false (rounded_sum (A + B))
    by_sign false hy side = add-units x y false A B hx hy safe
    by_sign true hy (inl e) = absurd (subst T e tt)
    by_sign true hy (inr z) = sum-units x y false true false A B (A + B) hx hy (sum_less A B (A + B) (omega arith)) safe

sub_is : (x y : Float) → sub binary32 x y ≡ add binary32 x (neg y)
unfolding sub
sub_is x y = refl

-- y up to x, and W what is left
pub sub-plus : (x y : Float) (A B W : ℕ) → HasUnits x false A → OnSide false y B → B + W ≡ A → A ≤ safe_units
    → HasUnits (sub binary32 x y) false (rounded_sum W)
sub-plus x y A B W hx o w safe =
    subst (λ (z : Float). HasUnits z false (rounded_sum W)) (sym (sub_is x y)) (by_sign o.sign o.value o.side)
  where
    small : W ≤ safe_units
    small = omega arith

    zero-taken : B ≡ 0 → sum binary32 false A false B units_of_one ≡ round binary32 false W units_of_one
    zero-taken z = sum_like false A B ∙ ap (λ (u : ℕ). round binary32 false u units_of_one) (omega arith)

    by_sign : (t : Bool) → HasUnits y t B → (t ≡ false) ⊎ (B ≡ 0) → HasUnits (add binary32 x (neg y)) false (rounded_sum W)
    by_sign false hy side = sum-units x (neg y) false true false A B W hx (neg-units y false B hy) (sum_less A B W w) small
    by_sign true hy (inl e) = absurd (subst T e tt)
    by_sign true hy (inr z) = sum-units x (neg y) false false false A B W hx (neg-units y true B hy) (zero-taken z) small

-- ---- where it does not matter which sign a zero bears

-- a result that is zero
zero-side : (s t : Bool) (x : Float) (a c : ℕ) → 0 < c → HasUnits x s (rounded a c) → a ≡ 0 → OnSide t x (rounded a c)
zero-side s t x a c some h z = side-of-zero s t x (rounded a c) h (ap (λ (u : ℕ). rounded u c) z ∙ rounded-zero c some)

-- a zero and B: the sum has the sign of B
sum-zero-left : (p s : Bool) (A B : ℕ) → A ≡ 0 → 0 < B → sum binary32 p A s B units_of_one ≡ round binary32 s (A + B) units_of_one
unfolding sum
sum-zero-left p s A B z some = by_signs p s
  where
    tested : (q : Bool) (y : Float) (less : Bool) → (A < B → T less)
        → cond less (round binary32 q (B - A) units_of_one) y ≡ round binary32 q (A + B) units_of_one
    tested q y true k = ap (λ (u : ℕ). round binary32 q u units_of_one) (omega arith)
    tested q y false k = absurd (k (omega arith))

    by_signs : (p s : Bool) → sum binary32 p A s B units_of_one ≡ round binary32 s (A + B) units_of_one
    by_signs true true = refl
    by_signs false false = refl
    by_signs true false = tested false (round binary32 (ltb B A) (A - B) units_of_one) (ltb A B) (lt→ltb A B)
    by_signs false true = tested true (round binary32 false (A - B) units_of_one) (ltb A B) (lt→ltb A B)

-- A and a zero: the sum has the sign of A, unless it is zero
abbrev SignedSum : Bool → Bool → ℕ → ℕ → Type 0
SignedSum s q A B = (r : Bool) × (sum binary32 s A q B units_of_one ≡ round binary32 r (A + B) units_of_one) × ((r ≡ s) ⊎ (A ≡ 0))

sum-zero-right : (s q : Bool) (A B : ℕ) → B ≡ 0 → SignedSum s q A B
unfolding sum
sum-zero-right s q A B z = by_signs s q
  where
    tested : (p q less : Bool) → (T less → A < B)
        → cond less (round binary32 q (B - A) units_of_one) (round binary32 p (A - B) units_of_one) ≡ round binary32 p (A + B) units_of_one
    tested p q true k = absurd (let l : A < B = k tt in omega arith)
    tested p q false k = ap (λ (u : ℕ). round binary32 p u units_of_one) (omega arith)

    zero-less : 0 < A → T (ltb B A)
    zero-less p = lt→ltb B A (omega arith)

    by_signs : (s q : Bool) → SignedSum s q A B
    by_signs true true = (true, refl, inl refl)
    by_signs false false = (false, refl, inl refl)
    by_signs false true = (false, tested false true (ltb A B) (ltb→lt A B), inl refl)
    by_signs true false = (
      ltb B A,
      tested (ltb B A) false (ltb A B) (ltb→lt A B),
      elim (eq-zero-or-pos A) [ inl y ↦ inr y | inr p ↦ inl (is_true (ltb B A) (zero-less p)) ],
    )

module _ (s : Bool) (x y : Float) (A B : ℕ) (ox : OnSide s x A) (oy : OnSide s y B) (safe : A + B ≤ safe_units) where
  add-zero : B ≡ 0 → OnSide s (add binary32 x y) (rounded_sum (A + B))
  add-zero z =
      let f = sum-zero-right ox.sign oy.sign A B z in
      let none : A ≡ 0 → rounded_sum (A + B) ≡ 0 = λ (w : A ≡ 0). ap rounded_sum (omega arith) ∙ rounded-zero units_of_one one-pos in
      record {
        sign = f.0;
        value = sum-units x y ox.sign oy.sign f.0 A B (A + B) ox.value oy.value f.1 safe;
        side = elim f.2 [ inl g ↦ elim ox.side [ inl e ↦ inl (g ∙ e) | inr w ↦ inr (none w) ] | inr w ↦ inr (none w) ];
      }

  pub add-side : OnSide s (add binary32 x y) (rounded_sum (A + B))
  add-side =
      elim (eq-zero-or-pos B) [
        | inl z ↦ add-zero z
        | inr p ↦
            let hy = units-of-side s y B oy p in
            side-of-units s (add binary32 x y) (rounded_sum (A + B)) (
            elim (eq-zero-or-pos A) [
              | inl w ↦ sum-units x y ox.sign s s A B (A + B) ox.value hy (sum-zero-left ox.sign s A B w p) safe
              | inr q ↦ add-units x y s A B (units-of-side s x A ox q) hy safe
            ])
      ]

-- a difference of two values on either side of zero
pub sub-side : (s : Bool) (x y : Float) (A B : ℕ) → OnSide s x A → OnSide s (neg y) B → A + B ≤ safe_units
    → OnSide s (sub binary32 x y) (rounded_sum (A + B))
sub-side s x y A B ox oy safe =
    subst (λ (z : Float). OnSide s z (rounded_sum (A + B))) (sym (sub_is x y)) (add-side s x (neg y) A B ox oy safe)

module _ (s t : Bool) (x y : Float) (A B : ℕ) (ox : OnSide s x A) (oy : OnSide t y B) where
  pub mul-side : SafeProduct (A * B) → OnSide (unlike s t) (mul binary32 x y) (rounded_product (A * B))
  mul-side safe =
      let value = mul-units x y ox.sign oy.sign A B ox.value oy.value safe in
      let zero = zero-side (unlike ox.sign oy.sign) (unlike s t) (mul binary32 x y) (A * B) (units_of_one * units_of_one) (mul-pos one-pos one-pos) value in
      elim (eq-zero-or-pos A) [
        | inl z ↦ zero (ap (λ (u : ℕ). u * B) z ∙ zero-mul B)
        | inr p ↦
            elim (eq-zero-or-pos B) [
              | inl z ↦ zero (ap (λ (u : ℕ). A * u) z ∙ mul-zero A)
              | inr q ↦
                  side-of-units (unlike s t) (mul binary32 x y) (rounded_product (A * B))
                  (mul-units x y s t A B (units-of-side s x A ox p) (units-of-side t y B oy q) safe)
            ]
      ]

  pub div-side : 0 < B → Safe A B → OnSide (unlike s t) (div binary32 x y) (rounded A B)
  div-side some safe =
      let hy = units-of-side t y B oy some in
      elim (eq-zero-or-pos A) [
        | inl z ↦
            zero-side (unlike ox.sign t) (unlike s t) (div binary32 x y) A B some
            (div-units x y ox.sign t A B ox.value hy some safe) z
        | inr p ↦ side-of-units (unlike s t) (div binary32 x y) (rounded A B) (div-units x y s t A B (units-of-side s x A ox p) hy some safe)
      ]
