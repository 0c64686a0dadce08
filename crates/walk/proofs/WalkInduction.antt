-- The one law of the walk: a relation between two states that every visit and every end keeps is kept by the two walks side by side. It is told the
-- place, so that an invariant may speak of it: cell (x, y, z), before visit j. A property of one walk is a relation that ignores the other.
use Prim.Native.Nat.{ℕ, zero, suc, ◌-◌, ◌<◌, ◌≤◌}
use native.Mathlib.Nat.{le_refl, le_step}
use native.Mathlib.Omega.{arith}
use lib.ListN.{length}
use Rattle.walk.specs.Walk.{Inside, Hooks, visit_of, cell_edges, times, cell, cells, rows, walk}

pub times-kept : {S U : Type 0} (R : ℕ → S → U → Type 0) (f : ℕ → S → S) (h : ℕ → U → U) (k : ℕ)
    → ((i : ℕ) (s : S) (t : U) → i < k → R i s t → R (suc i) (f i s) (h i t))
    → (s : S) (t : U) → R 0 s t → R k (times k f s) (times k h t)
unfolding times
times-kept R f h zero keep s t r = r
times-kept R f h (suc k) keep s t r =
    keep k (times k f s) (times k h t) (le_refl (suc k)) (times-kept R f h k (λ i s t l. keep i s t (le_step l)) s t r)

pub record Steps {S U : Type 0} (g : Inside) (n layers : ℕ) (f : Hooks S) (h : Hooks U) (R : ℕ → ℕ → ℕ → ℕ → S → U → Type 0) : Type 0 where
  pub visit : (z y x j : ℕ) (s : S) (t : U) → z < layers → y < n - 1 → x < n - 1 → j < length (cell_edges g x y z) → R z y x j s t
      → R z y x (suc j) (f.visit (visit_of g x y z j) s) (h.visit (visit_of g x y z j) t)
  pub cell_end : (z y x : ℕ) (s : S) (t : U) → z < layers → y < n - 1 → x < n - 1 → R z y x (length (cell_edges g x y z)) s t
      → R z y (suc x) 0 (f.cell_end s) (h.cell_end t)
  pub row_end : (z y : ℕ) (s : S) (t : U) → z < layers → y < n - 1 → R z y (n - 1) 0 s t → R z (suc y) 0 0 (f.row_end s) (h.row_end t)
  pub layer_end : (z : ℕ) (s : S) (t : U) → z < layers → R z (n - 1) 0 0 s t → R (suc z) 0 0 0 (f.layer_end z s) (h.layer_end z t)

-- the state before visit j of the cell (x, y, z)
unfoldable pub before : {S : Type 0} → Hooks S → Inside → ℕ → ℕ → ℕ → ℕ → ℕ → S → S
before h g n z y x j s = times j (λ i t. h.visit (visit_of g x y z i) t) (cells h g n z y x (rows h g n z y (walk h g n z s)))

module _ {S U : Type 0} (g : Inside) (n layers : ℕ) (f : Hooks S) (h : Hooks U) (R : ℕ → ℕ → ℕ → ℕ → S → U → Type 0) (q : Steps g n layers f h R) where
  in_cell : (z y x : ℕ) → z < layers → y < n - 1 → x < n - 1 → (j : ℕ) → j ≤ length (cell_edges g x y z) → (s : S) (t : U) → R z y x 0 s t
      → R z y x j (times j (λ i a. f.visit (visit_of g x y z i) a) s) (times j (λ i a. h.visit (visit_of g x y z i) a) t)
  in_cell z y x lz ly lx j lj s t r = times-kept (R z y x) _ _ j (λ i a b li p. q.visit z y x i a b lz ly lx (omega arith) p) s t r

  -- over one cell
  pub cell-kept : (z y x : ℕ) → z < layers → y < n - 1 → x < n - 1 → (s : S) (t : U) → R z y x 0 s t
      → R z y (suc x) 0 (cell f g n z y x s) (cell h g n z y x t)
  unfolding cell
  cell-kept z y x lz ly lx s t r =
      q.cell_end z y x _ _ lz ly lx (in_cell z y x lz ly lx (length (cell_edges g x y z)) (le_refl (length (cell_edges g x y z))) s t r)

  in_row : (z y : ℕ) → z < layers → y < n - 1 → (x : ℕ) → x ≤ n - 1 → (s : S) (t : U) → R z y 0 0 s t
      → R z y x 0 (cells f g n z y x s) (cells h g n z y x t)
  unfolding cells
  in_row z y lz ly x lx s t r = times-kept (λ i. R z y i 0) _ _ x (λ i a b li p. cell-kept z y i lz ly (omega arith) a b p) s t r

  in-layer : (z : ℕ) → z < layers → (y : ℕ) → y ≤ n - 1 → (s : S) (t : U) → R z 0 0 0 s t → R z y 0 0 (rows f g n z y s) (rows h g n z y t)
  unfolding rows
  in-layer z lz y ly s t r =
      times-kept (λ i. R z i 0 0) _ _ y
      (λ i a b li p. let l : i < n - 1 = omega arith in q.row_end z i _ _ lz l (in_row z i lz l (n - 1) (le_refl (n - 1)) a b p)) s t r

  in-walk : (z : ℕ) → z ≤ layers → (s : S) (t : U) → R 0 0 0 0 s t → R z 0 0 0 (walk f g n z s) (walk h g n z t)
  unfolding walk
  in-walk z lz s t r =
      times-kept (λ i. R i 0 0 0) _ _ z
      (λ i a b li p. let l : i < layers = omega arith in q.layer_end i _ _ l (in-layer i l (n - 1) (le_refl (n - 1)) a b p)) s t r

  -- after the walk
  pub walk_kept : (s : S) (t : U) → R 0 0 0 0 s t → R layers 0 0 0 (walk f g n layers s) (walk h g n layers t)
  walk_kept = in-walk layers (le_refl layers)

  -- before each visit, and at j = the number of the cell's visits after the last one
  pub visit-kept : (z y x j : ℕ) → z < layers → y < n - 1 → x < n - 1 → j ≤ length (cell_edges g x y z) → (s : S) (t : U) → R 0 0 0 0 s t
      → R z y x j (before f g n z y x j s) (before h g n z y x j t)
  unfolding before
  visit-kept z y x j lz ly lx lj s t r =
      in_cell z y x lz ly lx j lj _ _ (in_row z y lz ly x (omega arith) _ _ (in-layer z lz y (omega arith) _ _ (in-walk z (omega arith) s t r)))

-- a property of one walk
abbrev pub Alone : {S : Type 0} → (ℕ → ℕ → ℕ → ℕ → S → Type 0) → ℕ → ℕ → ℕ → ℕ → S → S → Type 0
Alone P z y x j s t = P z y x j s

module _ {S : Type 0} (g : Inside) (n layers : ℕ) (h : Hooks S) (P : ℕ → ℕ → ℕ → ℕ → S → Type 0) (q : Steps g n layers h h (Alone P)) where
  pub walk-holds : (s : S) → P 0 0 0 0 s → P layers 0 0 0 (walk h g n layers s)
  walk-holds s p = walk_kept g n layers h h (Alone P) q s s p

  pub visit-holds : (z y x j : ℕ) → z < layers → y < n - 1 → x < n - 1 → j ≤ length (cell_edges g x y z) → (s : S) → P 0 0 0 0 s
      → P z y x j (before h g n z y x j s)
  visit-holds z y x j lz ly lx lj s p = visit-kept g n layers h h (Alone P) q z y x j lz ly lx lj s s p
