-- How far `round` moves a fraction, for any precision p: `kept-apart` for every fraction, `kept-apart-whole` for one that is a whole
-- number. `Units` states both for binary32.
use mathlib.Core.Path.{◌≡◌, sym, ◌∙◌, subst}
use mathlib.Core.Logic.{inl, inr}
use Prim.Native.Nat.{ℕ, zero, suc, ◌+◌, ◌-◌, ◌*◌, ◌/◌, ◌%◌, ◌^◌, ◌≤◌, ◌<◌, compare, Ordering}
use native.Mathlib.Nat.{le_refl, le_trans, mul-one, mul-le-mul_right, mul-le-mul_left, mul-pos, div-add-mod', mod-lt, le-div_iff_mul-le, eq-zero-or-pos}
use native.Mathlib.Omega.{arith}
use mathlib.Core.Bool.{not}
use lib.Dec.{T, is_le, compare_is_eq, leb→le, nleb→lt, eqb→eq}
use lib.Arith.{lt_of_le-ne}
use lib.Pow.{pow-add, pow_pos}
use lib.Ieee.{nearest, size}
use lib.Ieee.Digits.{size_reaches}
use lib.Ieee.Fits.{eq→eqb}
use lib.Ieee.Nearest.{closest}
use lib.Ieee.Order.{drop, kept}
use Rattle.rounding.proofs.Nearness.{Apart, apart-times, apart-cancel}

-- ---- rounding to a whole number is at most half off

-- what `compare` answers
abbrev Compared : Ordering → ℕ → ℕ → Type 0
Compared Ordering.lt a b = a < b
Compared Ordering.eq a b = a ≡ b
Compared Ordering.gt a b = b < a

compared : (a b : ℕ) → Compared (compare a b) a b
compared a b = go (compare a b) (leb→le a b) (nleb→lt a b) (eqb→eq a b) (λ (e : a ≡ b). eq→eqb e)
  where
    go : (o : Ordering) → (T (is_le o) → a ≤ b) → (T (not (is_le o)) → b < a) → (T (compare_is_eq o) → a ≡ b) → (a ≡ b → T (compare_is_eq o)) → Compared o a b
    go Ordering.lt upto over same differ = lt_of_le-ne (upto tt) differ
    go Ordering.eq upto over same differ = same tt
    go Ordering.gt upto over same differ = over tt

-- the whole part w with the remainder r of a division by b
nearest-apart : (w r b : ℕ) (o : Ordering) → Compared o (r * 2) b → r < b → Apart (nearest w o * b * 2) ((w * b + r) * 2) b
nearest-apart w r b Ordering.lt c h = omega arith
nearest-apart w r b Ordering.eq c h = tie (w % 2) (omega arith)
  where
    tie : (t : ℕ) → t ≤ 1 → Apart ((w + t) * b * 2) ((w * b + r) * 2) b
    tie t l = let p : t * b ≤ 1 * b = mul-le-mul_right b l in omega arith
nearest-apart w r b Ordering.gt c h = omega arith

closest-apart : (a b : ℕ) → 0 < b → Apart (closest a b * b * 2) (a * 2) b
closest-apart a b some =
    subst (λ (x : ℕ). Apart (closest a b * b * 2) (x * 2) b) (div-add-mod' a b)
    (nearest-apart (a / b) (a % b) b (compare (a % b * 2) b) (compared (a % b * 2) b) (mod-lt a some))

-- ---- n / c rounded to p digits is a multiple of 2 ^ drop, which is 1 or so small that n / c has p digits in it

place-le-value : (p n c : ℕ) → 0 < p → 0 < c → 0 < drop p n c → 2 ^ (p - 1) * (c * 2 ^ drop p n c) ≤ n
place-le-value p n c digits some dropped =
    let k = drop p n c in
    let reached : 2 ^ (p - 1 + k) ≤ n / c = size_reaches (n / c) (p - 1 + k) (all-used (size (n / c)) p digits dropped) in
    let a : 2 ^ (p - 1) * 2 ^ k * c ≤ n = subst (λ (x : ℕ). x * c ≤ n) (pow-add 2 (p - 1) k) ((le-div_iff_mul-le some).0 reached) in
    omega arith
  where
    all-used : (z p : ℕ) → 0 < p → 0 < z - p → p - 1 + (z - p) < z
    all-used z p P h = omega arith

-- the place is at most m / 2 ^ (p - 1), for an m that is at least n and at least 2 ^ (p - 1) of the smallest places
place-le : (p n c m : ℕ) → 0 < p → 0 < c → n ≤ m → 2 ^ (p - 1) * c ≤ m → 2 ^ (p - 1) * (c * 2 ^ drop p n c) ≤ m
place-le p n c m digits some h k =
    elim (eq-zero-or-pos (drop p n c)) [
      | inl z ↦ subst (λ (x : ℕ). 2 ^ (p - 1) * (c * 2 ^ x) ≤ m) (sym z) (omega arith)
      | inr q ↦ le_trans (place-le-value p n c digits some q) h
    ]

double : (p : ℕ) → 0 < p → 2 * 2 ^ (p - 1) ≡ 2 ^ p
double zero h = omega arith
double (suc p) h = subst (λ (x : ℕ). 2 * 2 ^ x ≡ 2 ^ suc p) (pred p) (omega arith)
  where
    pred : (x : ℕ) → x ≡ suc x - 1
    pred x = omega arith

-- the rounded value, kept * 2 ^ drop, is within m / 2 ^ p of n / c, all times c
pub kept-apart : (p n c m : ℕ) → 0 < p → 0 < c → n ≤ m → 2 ^ (p - 1) * c ≤ m → Apart (kept p n c * 2 ^ drop p n c * c * 2 ^ p) (n * 2 ^ p) m
kept-apart p n c m digits some h k =
    let place = 2 ^ drop p n c in
    let half = closest-apart n (c * place) (mul-pos some (pow_pos (drop p n c))) in
    let scaled = scale (kept p n c) n (c * place) (2 ^ (p - 1)) m half (place-le p n c m digits some h k) in
    subst (λ (z : ℕ). Apart (kept p n c * place * c * z) (n * z) m) (double p digits)
    (subst (λ (z : ℕ). Apart (z * (2 * 2 ^ (p - 1))) (n * (2 * 2 ^ (p - 1))) m) (regroup (kept p n c) c place) scaled)
  where
    scale : (g n u q m : ℕ) → Apart (g * u * 2) (n * 2) u → q * u ≤ m → Apart (g * u * (2 * q)) (n * (2 * q)) m
    scale g n u q m near h = let times = apart-times (g * u * 2) (n * 2) u q near in omega arith

    regroup : (g c place : ℕ) → g * (c * place) ≡ g * place * c
    regroup g c place = omega arith

-- ---- a fraction n / c that is the whole number q is within q / 2 ^ p, however small

module _ (p q c : ℕ) (digits : 0 < p) (some : 0 < c) where
  -- no digit is dropped, and the closest whole number is q itself
  whole-exact : drop p (q * c) c ≡ 0 → kept p (q * c) c * 2 ^ drop p (q * c) c ≡ q
  whole-exact z =
      subst (λ (x : ℕ). closest (q * c) (c * 2 ^ x) * 2 ^ x ≡ q) (sym z)
      (mul-one (closest (q * c) (c * 1))
      ∙ same (closest (q * c) (c * 1)) q c some
      (subst (λ (x : ℕ). Apart (closest (q * c) (c * 1) * x * 2) (q * c * 2) x) (mul-one c)
      (closest-apart (q * c) (c * 1) (mul-pos some (pow_pos 0)))))
    where
      same : (g q c : ℕ) → 0 < c → Apart (g * c * 2) (q * c * 2) c → g ≡ q
      same g q c some near = let halves : Apart (g * 2) (q * 2) 1 = apart-cancel (g * 2) (q * 2) 1 c some (omega arith) in omega arith

  -- digits are dropped, so it is normal
  whole-normal : 0 < drop p (q * c) c → Apart (kept p (q * c) c * 2 ^ drop p (q * c) c * 2 ^ p) (q * 2 ^ p) q
  whole-normal dropped =
      let place = 2 ^ drop p (q * c) c in
      let under : 2 ^ (p - 1) * c ≤ 2 ^ (p - 1) * (c * place) = one_place (2 ^ (p - 1)) c place (pow_pos (drop p (q * c) c)) in
      let small : 2 ^ (p - 1) * c ≤ q * c = le_trans under (place-le-value p (q * c) c digits some dropped) in
      cut (kept p (q * c) c * place) (2 ^ p) (kept-apart p (q * c) c (q * c) digits some (le_refl (q * c)) small)
    where
      one_place : (h c place : ℕ) → 0 < place → h * c ≤ h * (c * place)
      one_place h c place P = let a : h * c * 1 ≤ h * c * place = mul-le-mul_left (h * c) P in omega arith

      cut : (x scale : ℕ) → Apart (x * c * scale) (q * c * scale) (q * c) → Apart (x * scale) (q * scale) q
      cut x scale near = apart-cancel (x * scale) (q * scale) q c some (omega arith)

  pub kept-apart-whole : Apart (kept p (q * c) c * 2 ^ drop p (q * c) c * 2 ^ p) (q * 2 ^ p) q
  kept-apart-whole = elim (eq-zero-or-pos (drop p (q * c) c)) [ inl z ↦ same (2 ^ p) (whole-exact z) | inr k ↦ whole-normal k ]
    where
      same : {x : ℕ} (scale : ℕ) → x ≡ q → Apart (x * scale) (q * scale) q
      same scale e = subst (λ (z : ℕ). Apart (z * scale) (q * scale) q) (sym e) (omega arith)
