-- Two laws of the index cache: `cells` never matters, and a number that reads as absent is 0.
use mathlib.Core.Path.{◌≡◌, refl, sym, ap, ◌∙◌}
use mathlib.Core.Logic.{⊎_elim}
use mathlib.Core.Bool.{Bool, true, false, cond, ◌||◌}
use Prim.Native.Nat.{ℕ, ◌+◌, ◌-◌, ◌*◌}
use native.Mathlib.Omega.{arith}
use lib.Dec.{eqb, ltb}
use borrow.Author.Tests.{eq-eqb, ltb-false}
use Rattle.walk.specs.Walk.{Visit, Inside}
use Rattle.walk.specs.Cache.{Cache, fresh, stored, put_column, in_layer, put, found, get, advance_cell, advance_row, advance_layer}
use Rattle.walk.specs.Numbering.{Numbering, mesh, crate, one_more}
use Rattle.walk.proofs.Bools.{bool_cases}
use Rattle.walk.proofs.FirstUse.{one_more-zero}
use Rattle.walk.proofs.Simulation.{Simulates, meshes-agree}

-- ---- `cells`

unfoldable pub wiped : Cache → Cache
wiped c =
    record { layers0 = c.layers0; layers1 = c.layers1; rows0 = c.rows0; rows1 = c.rows1; cells0 = λ i. 0; cells1 = λ i. 0; current = c.current }

-- the crate numbering with `cells` wiped before every call
unfoldable pub without_cells : ℕ → Numbering Cache
without_cells n =
    record {
      look = λ v c. (crate n).look v (wiped c);
      note = λ v i c. (crate n).note v i (wiped c);
      cell_end = λ c. advance_cell (wiped c);
      row_end = λ c. advance_row (wiped c);
      layer_end = λ c. advance_layer (wiped c);
    }

-- alike but for `cells`, whose place 1 holds 0 in the first
pub record ButCells (c d : Cache) : Type 0 where
  pub layers0 : d.layers0 ≡ c.layers0
  pub layers1 : d.layers1 ≡ c.layers1
  pub rows0 : d.rows0 ≡ c.rows0
  pub rows1 : d.rows1 ≡ c.rows1
  pub current : d.current ≡ c.current
  pub none0 : c.cells0 1 ≡ 0
  pub none1 : c.cells1 1 ≡ 0

cells-get : (n x y e : ℕ) (c d : Cache) → ButCells c d → get n x y e (wiped d) ≡ get n x y e c
unfolding get found wiped
cells-get n x y e c d r = rw (r.layers0, r.rows0, r.current, r.none0)

-- a store to place 0 leaves place 1
pub cells-kept : (b : Bool) (f : ℕ → ℕ) (i : ℕ) → f 1 ≡ 0 → cond b (stored f 0 i) f 1 ≡ 0
unfolding stored
cells-kept true f i h = h
cells-kept false f i h = h

cells-simulated : (n : ℕ) → Simulates (λ z i. ButCells) n (crate n) (without_cells n)
unfolding crate without_cells wiped put advance_cell advance_row advance_layer
cells-simulated n =
    record {
      look = λ z i v c d b r. ap one_more (cells-get n v.x v.y v.edge c d r);
      note = λ z i v c d b q r.
          record {
            layers0 = r.layers0;
            layers1 = ap (λ (f : ℕ → ℕ → ℕ). cond (in_layer v.edge) (stored f (v.y * n + v.x) (stored (f (v.y * n + v.x)) (v.edge - 4) i)) f) r.layers1;
            rows0 = r.rows0;
            rows1 = ap (λ (f : ℕ → ℕ → ℕ). cond (ltb (put_column v.edge) 3) (stored f v.x (stored (f v.x) (put_column v.edge) i)) f) r.rows1;
            current = ap (λ (f : ℕ → ℕ). stored f v.edge i) r.current;
            none0 = r.none0;
            none1 = cells-kept (eqb v.edge 5 || eqb v.edge 10) c.cells1 i r.none1;
          };
      cell_end = λ z i c d r.
          record { layers0 = r.layers0; layers1 = r.layers1; rows0 = r.rows0; rows1 = r.rows1; current = refl; none0 = r.none1; none1 = r.none0 };
      row_end = λ z i c d r.
          record { layers0 = r.layers0; layers1 = r.layers1; rows0 = r.rows1; rows1 = r.rows0; current = r.current; none0 = refl; none1 = r.none1 };
      layer_end = λ z i c d r.
          record { layers0 = r.layers1; layers1 = r.layers0; rows0 = refl; rows1 = r.rows1; current = r.current; none0 = refl; none1 = r.none1 };
    }

pub cells-never-matter : (g : Inside) (n layers : ℕ)
    → ((mesh (without_cells n) fresh g n layers).made ≡ (mesh (crate n) fresh g n layers).made)
    × ((mesh (without_cells n) fresh g n layers).indices ≡ (mesh (crate n) fresh g n layers).indices)
unfolding fresh
cells-never-matter g n layers =
    let a =
    meshes-agree (λ z i. ButCells) n (crate n) (without_cells n) (cells-simulated n) g layers fresh fresh
    (record { layers0 = refl; layers1 = refl; rows0 = refl; rows1 = refl; current = refl; none0 = refl; none1 = refl }) in
    (a.made, a.indices)

-- ---- what reads as absent

none_found : (n x y e : ℕ) (c : Cache) → get n x y e c ≡ 0 → found n x y e c ≡ 0
unfolding get
none_found n x y e c h =
    ⊎_elim
    (λ (t : ltb 0 (found n x y e c) ≡ true).
    sym (ap (λ (b : Bool). cond b (found n x y e c) (c.current e)) t) ∙ h)
    (λ (f : ltb 0 (found n x y e c) ≡ false). let l = ltb-false 0 (found n x y e c) f in omega arith)
    (bool_cases (ltb 0 (found n x y e c)))

-- a number that is put where none was is got back
pub get-put : (n x y e i : ℕ) (c : Cache) → get n x y e c ≡ 0 → get n x y e (put n x y e i c) ≡ i
unfolding get found put stored
get-put n x y e i c h =
    ap (λ (f : ℕ). cond (ltb 0 f) f (cond (eqb e e) i (c.current e))) (none_found n x y e c h) ∙ ap (λ (b : Bool). cond b i (c.current e)) (eq-eqb e e refl)

-- and if the same visit still finds none, the number was 0
pub absent-zero : (n : ℕ) (v : Visit) (i : ℕ) (c : Cache) → (crate n).look v c ≡ 0 → (crate n).look v ((crate n).note v i c) ≡ 0 → i ≡ 0
unfolding crate
absent-zero n v i c h k =
    sym (get-put n v.x v.y v.edge i c (one_more-zero (get n v.x v.y v.edge c) h))
    ∙ one_more-zero (get n v.x v.y v.edge (put n v.x v.y v.edge i c)) k
