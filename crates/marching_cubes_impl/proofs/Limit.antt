-- A sample is good exactly where two comparisons with 2 ^ 126 pass.
use mathlib.Core.Path.{◌≡◌, refl, sym, ap, ◌∙◌, subst}
use mathlib.Core.Logic.{◌⊎◌, inl, inr}
use Prim.Native.Nat.{ℕ, ◌+◌, ◌*◌, ◌^◌, ◌≤◌, ◌<◌}
use native.Mathlib.Nat.{mul-one, mul-pos, le_of_eq, eq-or-lt_of_le}
use native.Mathlib.Omega.{arith}
use mathlib.Core.Bool.{Bool, true, false, ◌&&◌, ◌||◌, cond}
use lib.IntN.{ℤ, pos}
use lib.Dec.{T, leb, ltb, eqb, ltb→lt, lt→ltb, leb→le, le→leb, eqb→eq, eqb_refl, lit<}
use lib.Ieee.{Float, nan, inf, fin, binary32, up, down, le, neg, of_bits}
use lib.Ieee.Fits.{down_pos}
use Rattle.marching_cubes_impl.specs.Sample.{good}

abbrev pub limit : Float
limit = fin false 1 (pos 126)

ext : (p q : Bool) → (T p → T q) → (T q → T p) → p ≡ q
ext true true f g = refl
ext true false f g = absurd (f tt)
ext false true f g = absurd (g tt)
ext false false f g = refl

-- ≤ as `<` or `=`, where e says that x = y
le_is : (x y : ℕ) (e : Bool) → (T e → x ≡ y) → (x ≡ y → T e) → ltb x y || (e && true) ≡ leb x y
le_is x y e f g = ext (ltb x y || (e && true)) (leb x y) (λ (t : T (ltb x y || (e && true))). le→leb x y (there (ltb x y) e (ltb→lt x y) f t)) (λ (t : T (leb x y)). back (ltb x y) e (lt→ltb x y) g (eq-or-lt_of_le (leb→le x y t)))
  where
    there : (l e : Bool) → (T l → x < y) → (T e → x ≡ y) → T (l || (e && true)) → x ≤ y
    there true e h k t = (let p : x < y = h tt in omega arith)
    there false true h k t = le_of_eq (k tt)
    there false false h k t = absurd t

    back : (l e : Bool) → (x < y → T l) → (x ≡ y → T e) → (x ≡ y) ⊎ (x < y) → T (l || (e && true))
    back true e h k o = tt
    back false true h k o = tt
    back false false h k (inl p) = k p
    back false false h k (inr p) = h p

same : (x y : ℕ) → x ≡ y → T (eqb x y)
same x y p = subst (λ (z : ℕ). T (eqb x z)) p (eqb_refl x)

-- a test that passes, in front
front : (l r : Bool) → T l → l || r ≡ true
front true r t = refl
front false r t = absurd t

some : (x y : ℕ) → 0 < y → T (ltb 0 (x + y))
some x y h = lt→ltb 0 (x + y) (omega arith)

some' : (x y : ℕ) → 0 < y → T (ltb 0 (y + x))
some' x y h = lt→ltb 0 (y + x) (omega arith)

room : (e : ℤ) → 0 < 2 ^ 126 * down e
room e = mul-pos (lit< tt) (down_pos e)

pub good-comparisons : (x : Float) → cond (le x limit) (le (neg limit) x) false ≡ good x
unfolding good le neg
good-comparisons nan = refl
good-comparisons (inf true) = refl
good-comparisons (inf false) = refl
good-comparisons (fin true m e) =
    let x = m * up e * 1 in
    let y = 2 ^ 126 * down e in
    ap (λ (t : Bool). cond t (ltb x y || (eqb y x && true)) false) (front (ltb 0 (x + y)) (eqb x y && (false || eqb x 0)) (some x y (room e)))
    ∙ le_is x y (eqb y x) (λ (t : T (eqb y x)). sym (eqb→eq y x t)) (λ (p : x ≡ y). same y x (sym p))
    ∙ ap (λ (z : ℕ). leb z y) (mul-one (m * up e))
good-comparisons (fin false m e) =
    let x = m * up e * 1 in
    let y = 2 ^ 126 * down e in
    ap (λ (t : Bool). cond (ltb x y || (eqb x y && true)) t false) (front (ltb 0 (y + x)) (eqb y x && (false || eqb y 0)) (some' x y (room e)))
    ∙ cond-self (ltb x y || (eqb x y && true))
    ∙ le_is x y (eqb x y) (eqb→eq x y) (same x y)
    ∙ ap (λ (z : ℕ). leb z y) (mul-one (m * up e))
  where
    cond-self : (b : Bool) → cond b true false ≡ b
    cond-self true = refl
    cond-self false = refl

-- the code's two comparisons, with the limit by its bits
pub good_in_range : (x : Float) → good x ≡ (le x (of_bits binary32 0x7e80_0000) && le (neg (of_bits binary32 0x7e80_0000)) x)
unfolding of_bits
good_in_range x = sym (both (le x limit) (le (neg limit) x) ∙ good-comparisons x)
  where
    both : (a b : Bool) → (a && b) ≡ cond a b false
    both true b = refl
    both false b = refl
