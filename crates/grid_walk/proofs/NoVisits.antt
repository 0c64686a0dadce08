-- Layers in which the number of visits does not grow have no cell that visits anything. For the layers that the walk leaves out.
use mathlib.Core.Path.{◌≡◌, refl}
use mathlib.Core.List.{List, [], ◌∷◌, ◌++◌}
use Prim.Native.Nat.{ℕ, zero, suc, ◌+◌, ◌-◌, ◌≤◌, ◌<◌}
use native.Mathlib.Decide.{dec_lt}
use native.Mathlib.Nat.{le_refl, le_trans}
use native.Mathlib.Omega.{arith}
use lib.ListN.{length}
use Rattle.walk.specs.Walk.{Visit, Inside, visit_of, cell_edges, times, cell, cells, rows, walk, listing, visits}
use Rattle.walk.proofs.Each.{length-snoc}

-- ---- what no step makes smaller

module _ {S : Type 0} (size : S → ℕ) (step : ℕ → S → S) (up : (i : ℕ) (s : S) → size s ≤ size (step i s)) (s : S) where
  times-grows : (j k : ℕ) → j ≤ k → size (times j step s) ≤ size (times k step s)
  unfolding times
  times-grows j zero h = let none : j ≡ 0 = omega arith in rw none (le_refl _)
  times-grows j (suc k) h =
      elim (dec_lt k j) [
        | yes q ↦ let all : j ≡ suc k = omega arith in rw all (le_refl _)
        | no q ↦ le_trans (times-grows j k (omega arith)) (up k (times k step s))
      ]

-- ---- the list of visits

no_edges : (l : List ℕ) → length l ≡ 0 → l ≡ []
no_edges [] h = refl
no_edges (e ∷ l) h = absurd (omega arith)

module _ (g : Inside) (n : ℕ) where
  listed : (z y x k : ℕ) (l : List Visit) → length (times k (λ j t. listing.visit (visit_of g x y z j) t) l) ≡ length l + k
  unfolding listing times
  listed z y x zero l = omega arith
  listed z y x (suc k) l =
      let one = length-snoc (times k (λ j t. t ++ (visit_of g x y z j ∷ [])) l) (visit_of g x y z k) in
      let rest = listed z y x k l in
      omega arith

  cell-listed : (z y x : ℕ) (l : List Visit) → length (cell listing g n z y x l) ≡ length l + length (cell_edges g x y z)
  unfolding cell listing
  cell-listed z y x l = listed z y x (length (cell_edges g x y z)) l

  cell-grows : (z y x : ℕ) (l : List Visit) → length l ≤ length (cell listing g n z y x l)
  cell-grows z y x l = let e = cell-listed z y x l in omega arith

  abbrev row : ℕ → ℕ → List Visit → List Visit
  row z y l = listing.row_end (cells listing g n z y (n - 1) l)

  row-grows : (z y : ℕ) (l : List Visit) → length l ≤ length (row z y l)
  unfolding cells listing times
  row-grows z y l = times-grows length (cell listing g n z y) (cell-grows z y) l 0 (n - 1) (omega arith)

  abbrev layer : ℕ → List Visit → List Visit
  layer z l = listing.layer_end z (rows listing g n z (n - 1) l)

  layer-grows : (z : ℕ) (l : List Visit) → length l ≤ length (layer z l)
  unfolding rows listing times
  layer-grows z l = times-grows length (row z) (row-grows z) l 0 (n - 1) (omega arith)

  -- a layer adds no less than each of its cells
  cell-within : (z y x : ℕ) (l : List Visit) → y < n - 1 → x < n - 1 → length l + length (cell_edges g x y z) ≤ length (layer z l)
  unfolding rows cells listing times
  cell-within z y x l ly lx =
      let at_row : List Visit = times y (row z) l in
      let at-cell : List Visit = times x (cell listing g n z y) at_row in
      let a : length l ≤ length at_row = times-grows length (row z) (row-grows z) l 0 y (omega arith) in
      let b : length at_row ≤ length at-cell = times-grows length (cell listing g n z y) (cell-grows z y) at_row 0 x (omega arith) in
      let c = cell-listed z y x at-cell in
      let d = times-grows length (cell listing g n z y) (cell-grows z y) at_row (suc x) (n - 1) lx in
      let e = times-grows length (row z) (row-grows z) l (suc y) (n - 1) ly in
      omega arith

  pub no-visits : (k m : ℕ) → length (visits g n k) ≡ length (visits g n m) → (z y x : ℕ) → k ≤ z → z < m → y < n - 1 → x < n - 1 → cell_edges g x y z ≡ []
  unfolding visits walk times
  no-visits k m same z y x hk hm ly lx =
      let a = times-grows length layer layer-grows [] k z hk in
      let b = cell-within z y x (times z layer []) ly lx in
      let c = times-grows length layer layer-grows [] (suc z) m hm in
      no_edges (cell_edges g x y z) (omega arith)
