-- Each operation is one rounding of a fraction of its operands' units: `mul_is`, `div_is` and `add_is`, whatever the exponents are. `Operations`
-- reads off the results.
use mathlib.Core.Path.{◌≡◌, refl, sym, ap, ◌∙◌, subst}
use Prim.Native.Nat.{ℕ, ◌+◌, ◌-◌, ◌*◌, ◌≤◌, ◌<◌}
use native.Mathlib.Nat.{lt_irrefl, lt_of_not-le, not-le_of_lt, mul-sub, mul-le-mul_right, le_of_mul-le-mul_right, mul-pos, mul-mul-mul_comm, eq_of_mul-eq-mul_right}
use native.Mathlib.Omega.{arith}
use mathlib.Core.Bool.{Bool, true, false, ◌&&◌, cond}
use lib.IntN.{ℤ}
use lib.Dec.{T, ltb, eqb, eqb→eq, ltb→lt, lt→ltb}
use lib.Ieee.{Float, nan, inf, fin, binary32, up, down, unlike, round, sum, add, mul, div}
use lib.Ieee.Fits.{down_pos}
use lib.Ieee.Scale.{round_same}
use lib.Ieee.Positive.{first_pos}
use Rattle.rounding.proofs.Units.{units_of_one, HasUnits, one-pos}
use Rattle.rounding.proofs.Signs.{fraction-pos}

-- ---- products and quotients of digits and exponents

module _ (s t : Bool) (m n : ℕ) (e d : ℤ) (A B : ℕ) (hx : m * up e * units_of_one ≡ A * down e) (hy : n * up d * units_of_one ≡ B * down d) where
  mul-fin : mul binary32 (fin s m e) (fin t n d) ≡ round binary32 (unlike s t) (A * B) (units_of_one * units_of_one)
  unfolding mul
  mul-fin =
      round_same binary32 (unlike s t) (m * up e * (n * up d)) (down e * down d) (A * B) (units_of_one * units_of_one)
      (mul-pos (down_pos e) (down_pos d)) (mul-pos one-pos one-pos)
      (mul-mul-mul_comm (m * up e) (n * up d) units_of_one units_of_one
      ∙ ap (λ (z : ℕ). z * (n * up d * units_of_one)) hx
      ∙ ap (λ (z : ℕ). A * down e * z) hy
      ∙ mul-mul-mul_comm A (down e) B (down d))

  div-fin : 0 < B → div binary32 (fin s m e) (fin t n d) ≡ round binary32 (unlike s t) A B
  unfolding div
  div-fin some =
      let divisor : 0 < n * up d = fraction-pos (n * up d) B (down d) some (down_pos d) hy in
      tested (eqb n 0) (eqb→eq n 0) (first_pos n (up d) divisor)
      ∙ round_same binary32 (unlike s t) (m * up e * down d) (n * up d * down e) A B (mul-pos divisor (down_pos e)) some
      (cross (m * up e) (down e) (n * up d) (down d) hx hy)
    where
      tested : (zero : Bool) → (T zero → n ≡ 0) → 0 < n
          → cond zero (cond (eqb m 0) nan (inf (unlike s t))) (round binary32 (unlike s t) (m * up e * down d) (n * up d * down e))
          ≡ round binary32 (unlike s t) (m * up e * down d) (n * up d * down e)
      tested true k p = absurd (lt_irrefl 0 (subst (λ (z : ℕ). 0 < z) (k tt) p))
      tested false k p = refl

      cross : (x de y dd : ℕ) → x * units_of_one ≡ A * de → y * units_of_one ≡ B * dd → x * dd * B ≡ A * (y * de)
      cross x de y dd h k =
          eq_of_mul-eq-mul_right units_of_one one-pos (x * dd * B) (A * (y * de))
          (let p : x * units_of_one * (dd * B) ≡ A * de * (dd * B) = ap (λ (z : ℕ). z * (dd * B)) h in
          let q : y * units_of_one * (A * de) ≡ B * dd * (A * de) = ap (λ (z : ℕ). z * (A * de)) k in
          omega arith)

-- ---- a sum depends on the sizes alone: a / c = A / d and b / c = B / d

module _ (a b c A B d : ℕ) (C : 0 < c) (D : 0 < d) (ha : a * d ≡ A * c) (hb : b * d ≡ B * c) where
  lt-scale : a < b → A < B
  lt-scale h =
      lt_of_not-le (λ (k : B ≤ A). not-le_of_lt h (le_of_mul-le-mul_right {k = d} (let l : B * c ≤ A * c = mul-le-mul_right c k in omega arith) D))

  minus-scale : (b - a) * d ≡ (B - A) * c
  minus-scale =
      let p : d * (b - a) ≡ d * b - d * a = mul-sub d b a in
      let q : c * (B - A) ≡ c * B - c * A = mul-sub c B A in
      omega arith

  plus-scale : (a + b) * d ≡ (A + B) * c
  plus-scale = omega arith

both_ways : (p q : Bool) → (T p → T q) → (T q → T p) → p ≡ q
both_ways true true f g = refl
both_ways true false f g = absurd (f tt)
both_ways false true f g = absurd (g tt)
both_ways false false f g = refl

ltb-scale : (a b c A B d : ℕ) → 0 < c → 0 < d → a * d ≡ A * c → b * d ≡ B * c → ltb a b ≡ ltb A B
ltb-scale a b c A B d C D ha hb =
    both_ways (ltb a b) (ltb A B)
    (λ (t : T (ltb a b)). lt→ltb A B (lt-scale a b c A B d C D ha hb (ltb→lt a b t)))
    (λ (t : T (ltb A B)). lt→ltb a b (lt-scale A B d a b c D C (sym ha) (sym hb) (ltb→lt A B t)))

sum-scale : (s t : Bool) (a b c A B d : ℕ) → 0 < c → 0 < d → a * d ≡ A * c → b * d ≡ B * c → sum binary32 s a t b c ≡ sum binary32 s A t B d
unfolding sum
sum-scale s t a b c A B d C D ha hb =
    rw (
      round_same binary32 s (a + b) c (A + B) d C D (plus-scale a b c A B d C D ha hb),
      round_same binary32 t (b - a) c (B - A) d C D (minus-scale a b c A B d C D ha hb),
      round_same binary32 (s && ltb b a) (a - b) c (A - B) d C D (minus-scale b a c B A d C D hb ha),
      ltb-scale a b c A B d C D ha hb,
      ltb-scale b a c B A d C D hb ha,
    )

add-fin : (s t : Bool) (m n : ℕ) (e d : ℤ) (A B : ℕ) → m * up e * units_of_one ≡ A * down e → n * up d * units_of_one ≡ B * down d
    → add binary32 (fin s m e) (fin t n d) ≡ sum binary32 s A t B units_of_one
unfolding add
add-fin s t m n e d A B hx hy =
    sum-scale s t (m * up e * down d) (n * up d * down e) (down e * down d) A B units_of_one (mul-pos (down_pos e) (down_pos d)) one-pos
    (first (m * up e) (down e) A (down d) hx) (second (n * up d) (down d) B (down e) hy)
  where
    first : (x de u dd : ℕ) → x * units_of_one ≡ u * de → x * dd * units_of_one ≡ u * (de * dd)
    first x de u dd h = let p : x * units_of_one * dd ≡ u * de * dd = ap (λ (z : ℕ). z * dd) h in omega arith

    second : (x de u dd : ℕ) → x * units_of_one ≡ u * de → x * dd * units_of_one ≡ u * (dd * de)
    second x de u dd h = let p : x * units_of_one * dd ≡ u * de * dd = ap (λ (z : ℕ). z * dd) h in omega arith

-- ---- for values in units

record Parts (x : Float) (s : Bool) (u : ℕ) : Type 0 where
  digits : ℕ
  exponent : ℤ
  written : x ≡ fin s digits exponent
  size : digits * up exponent * units_of_one ≡ u * down exponent

parts : (x : Float) (s : Bool) (u : ℕ) → HasUnits x s u → Parts x s u
parts nan s u h = absurd h
parts (inf t) s u h = absurd h
parts (fin t m e) s u h = record { digits = m; exponent = e; written = ap (λ (b : Bool). fin b m e) h.0; size = h.1 }

module _ (x y : Float) (s t : Bool) (A B : ℕ) (hx : HasUnits x s A) (hy : HasUnits y t B) where
  abbrev p : Parts x s A
  p = parts x s A hx

  abbrev q : Parts y t B
  q = parts y t B hy

  written : (f : Float → Float → Float) → f x y ≡ f (fin s p.digits p.exponent) (fin t q.digits q.exponent)
  written f = ap (λ (z : Float). f z y) p.written ∙ ap (λ (z : Float). f (fin s p.digits p.exponent) z) q.written

  pub mul_is : mul binary32 x y ≡ round binary32 (unlike s t) (A * B) (units_of_one * units_of_one)
  mul_is = written (mul binary32) ∙ mul-fin s t p.digits q.digits p.exponent q.exponent A B p.size q.size

  pub div_is : 0 < B → div binary32 x y ≡ round binary32 (unlike s t) A B
  div_is some = written (div binary32) ∙ div-fin s t p.digits q.digits p.exponent q.exponent A B p.size q.size some

  pub add_is : add binary32 x y ≡ sum binary32 s A t B units_of_one
  add_is = written (add binary32) ∙ add-fin s t p.digits q.digits p.exponent q.exponent A B p.size q.size
