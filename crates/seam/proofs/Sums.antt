-- Sums over the cells of a grid. A family that is nothing on the two outer planes of an axis has the same sum one step further along it.
use mathlib.Core.Path.{◌≡◌, refl, ap, ◌∙◌}
use Prim.Native.Nat.{ℕ, zero, suc, ◌+◌}
use native.Mathlib.Numerals.{add-one}
use native.Mathlib.Omega.{arith}

-- f 0 + f 1 + .. + f (k - 1)
unfoldable pub sum : ℕ → (ℕ → ℕ) → ℕ
sum zero f = 0
sum (suc k) f = sum k f + f k

sum-eq : (k : ℕ) (f h : ℕ → ℕ) → ((i : ℕ) → f i ≡ h i) → sum k f ≡ sum k h
unfolding sum
sum-eq zero f h e = refl
sum-eq (suc k) f h e = let u = sum-eq k f h e in let v = e k in omega arith

sum-add : (k : ℕ) (f h : ℕ → ℕ) → sum k (λ i. f i + h i) ≡ sum k f + sum k h
unfolding sum
sum-add zero f h = refl
sum-add (suc k) f h = let u = sum-add k f h in omega arith

sum-none : (k : ℕ) (f : ℕ → ℕ) → ((i : ℕ) → f i ≡ 0) → sum k f ≡ 0
unfolding sum
sum-none zero f e = refl
sum-none (suc k) f e = let u = sum-none k f e in let v = e k in omega arith

sum-next : (k : ℕ) (f : ℕ → ℕ) → sum k (λ i. f (i + 1)) + f 0 ≡ sum k f + f k
unfolding sum
sum-next zero f = refl
sum-next (suc k) f =
    let u = sum-next k f in
    let v : f (k + 1) ≡ f (suc k) = ap f (add-one k) in
    omega arith

sum-shift : (k : ℕ) (f : ℕ → ℕ) → f 0 ≡ 0 → f k ≡ 0 → sum k (λ i. f (i + 1)) ≡ sum k f
sum-shift k f a b = let u = sum-next k f in omega arith

-- over layers of m by m cells
unfoldable pub sum_cells : ℕ → ℕ → (ℕ → ℕ → ℕ → ℕ) → ℕ
sum_cells layers m f = sum layers (λ z. sum m (λ y. sum m (λ x. f x y z)))

module _ (layers m : ℕ) where
  pub sum_cells-eq : (f h : ℕ → ℕ → ℕ → ℕ) → ((x y z : ℕ) → f x y z ≡ h x y z) → sum_cells layers m f ≡ sum_cells layers m h
  unfolding sum_cells
  sum_cells-eq f h e = sum-eq layers _ _ (λ z. sum-eq m _ _ (λ y. sum-eq m _ _ (λ x. e x y z)))

  pub sum_cells-add : (f h : ℕ → ℕ → ℕ → ℕ) → sum_cells layers m (λ x y z. f x y z + h x y z) ≡ sum_cells layers m f + sum_cells layers m h
  unfolding sum_cells
  sum_cells-add f h =
      sum-eq layers _ _
      (λ z. sum-eq m _ _ (λ y. sum-add m (λ x. f x y z) (λ x. h x y z)) ∙ sum-add m (λ y. sum m (λ x. f x y z)) (λ y. sum m (λ x. h x y z)))
      ∙ sum-add layers (λ z. sum m (λ y. sum m (λ x. f x y z))) (λ z. sum m (λ y. sum m (λ x. h x y z)))

  pub sum_cells-along-x : (f : ℕ → ℕ → ℕ → ℕ) → ((y z : ℕ) → f 0 y z ≡ 0) → ((y z : ℕ) → f m y z ≡ 0)
      → sum_cells layers m (λ x y z. f (x + 1) y z) ≡ sum_cells layers m f
  unfolding sum_cells
  sum_cells-along-x f a b = sum-eq layers _ _ (λ z. sum-eq m _ _ (λ y. sum-shift m (λ x. f x y z) (a y z) (b y z)))

  pub sum_cells-along-y : (f : ℕ → ℕ → ℕ → ℕ) → ((x z : ℕ) → f x 0 z ≡ 0) → ((x z : ℕ) → f x m z ≡ 0)
      → sum_cells layers m (λ x y z. f x (y + 1) z) ≡ sum_cells layers m f
  unfolding sum_cells
  sum_cells-along-y f a b =
      sum-eq layers _ _ (λ z. sum-shift m (λ y. sum m (λ x. f x y z)) (sum-none m _ (λ x. a x z)) (sum-none m _ (λ x. b x z)))

  pub sum_cells-along-z : (f : ℕ → ℕ → ℕ → ℕ) → ((x y : ℕ) → f x y 0 ≡ 0) → ((x y : ℕ) → f x y layers ≡ 0)
      → sum_cells layers m (λ x y z. f x y (z + 1)) ≡ sum_cells layers m f
  unfolding sum_cells
  sum_cells-along-z f a b =
      sum-shift layers (λ z. sum m (λ y. sum m (λ x. f x y z))) (sum-none m _ (λ y. sum-none m _ (λ x. a x y)))
      (sum-none m _ (λ y. sum-none m _ (λ x. b x y)))
