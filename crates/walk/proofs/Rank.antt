-- The place of a cell in the walk as one number, its rank: rising along the walk, and the ends of a row and of a layer are no step at all.
use mathlib.Core.Path.{◌≡◌, sym, ap}
use Prim.Native.Nat.{ℕ, suc, ◌+◌, ◌*◌, ◌<◌, ◌≤◌}
use native.Mathlib.Nat.{mul-le-mul_right, suc-mul}
use native.Mathlib.Decide.{dec_lt}
use native.Mathlib.Omega.{arith}

-- ---- places in a plane of width n

place-order : (n x y u v : ℕ) → x < n → y < v → y * n + x ≡ v * n + u → ⊥
place-order n x y u v hx h e = omega (arith, mul-le-mul_right n h, suc-mul y n)

pub place-injective : (n x y u v : ℕ) → x < n → u < n → y * n + x ≡ v * n + u → (x ≡ u) × (y ≡ v)
place-injective n x y u v hx hu e =
    elim (dec_lt y v) [
      | yes h ↦ absurd (place-order n x y u v hx h e)
      | no h ↦
          elim (dec_lt v y) [
            | yes i ↦ absurd (place-order n u v x y hu i (sym e))
            | no i ↦ let a : y ≡ v = omega arith in (omega (arith, ap (λ (q : ℕ). q * n) a), a)
          ]
    ]

pub place-lt : (n x y : ℕ) → x < n → y < n → y * n + x < n * n
place-lt n x y hx hy = omega (arith, mul-le-mul_right n hy, suc-mul y n)

-- ---- ranks, over layers of m by m cells

unfoldable pub rank : ℕ → ℕ → ℕ → ℕ → ℕ
rank m x y z = (z * m + y) * m + x

pub rank_mono : (m x y z a b c : ℕ) → a ≤ x → b ≤ y → c ≤ z → rank m a b c ≤ rank m x y z
unfolding rank
rank_mono m x y z a b c p q r =
    let u : c * m ≤ z * m = mul-le-mul_right m r in
    let v : c * m + b ≤ z * m + y = omega arith in
    let w : (c * m + b) * m ≤ (z * m + y) * m = mul-le-mul_right m v in
    omega arith

pub rank-injective : (m x y z a b c : ℕ) → x < m → y < m → a < m → b < m → rank m a b c ≡ rank m x y z → (a ≡ x) × (b ≡ y) × (c ≡ z)
unfolding rank
rank-injective m x y z a b c p q r s e =
    let u = place-injective m a (c * m + b) x (z * m + y) r p e in
    let v = place-injective m b c y z s q u.1 in
    (u.0, v.0, v.1)

pub rank-suc : (m x y z : ℕ) → rank m (suc x) y z ≡ suc (rank m x y z)
unfolding rank
rank-suc m x y z = omega arith

pub rank-row-end : (m y z : ℕ) → rank m m y z ≡ rank m 0 (suc y) z
unfolding rank
rank-row-end m y z = omega arith

pub rank-layer-end : (m z : ℕ) → rank m 0 m z ≡ rank m 0 0 (suc z)
unfolding rank
rank-layer-end m z = omega arith

pub rank-start : (m : ℕ) → rank m 0 0 0 ≡ 0
unfolding rank
rank-start m = omega arith

-- the number of cells in so many layers
pub rank-layers : (m layers : ℕ) → rank m 0 0 layers ≡ layers * m * m
unfolding rank
rank-layers m layers = omega arith

pub rank-lt-end : (m layers a b c : ℕ) → a < m → b < m → c < layers → rank m a b c < rank m 0 0 layers
unfolding rank
rank-lt-end m layers a b c p q r =
    let u : suc c * m ≤ layers * m = mul-le-mul_right m r in
    let e = suc-mul c m in
    let v : suc (c * m + b) ≤ layers * m = omega arith in
    let w : suc (c * m + b) * m ≤ layers * m * m = mul-le-mul_right m v in
    let f = suc-mul (c * m + b) m in
    omega arith
