-- What `get` finds outside a cell stays as it was at the cell's start, for the cell puts into the other layer and the other row. So `current` can hold it:
-- the found number of an edge, or else the cell's own.
use mathlib.Core.Path.{◌≡◌, refl, sym, ap, ◌∙◌}
use mathlib.Core.Logic.{⊎_elim}
use mathlib.Core.Bool.{Bool, true, false, cond}
use mathlib.Core.List.{List}
use Prim.Native.Nat.{ℕ, zero, suc, ◌+◌, ◌-◌, ◌*◌, ◌≤◌, ◌<◌}
use native.Mathlib.Omega.{arith}
use lib.Dec.{eqb, leb, ltb}
use lib.ListN.{length, get_or, set, replicate, length-set, length-replicate, get_or-replicate}
use lib.Seq.{get_or-set_same, get_or-set_other}
use borrow.Author.Tests.{eqb-true, eqb-false, leb-true, ltb-true, lt-ltb}
use Rattle.walk.specs.Cache.{in_layer, put_column, get_column}
use Rattle.walk.proofs.Bools.{bool_cases, and_left, and_right}
use Rattle.walk.proofs.Rank.{place-lt}
use Rattle.walk_models.specs.CacheMemory.{layer_place, row_place, put_layer, put_row, put_memory, found_memory, get_memory}
use Rattle.index_cache.specs.Found.{found_all}
use Rattle.held_visits.specs.CellMemory.{in_cell}

-- ---- the found number, or else the cell's own

abbrev or_own : ℕ → ℕ → ℕ
or_own k own = cond (ltb 0 k) k own

or_own-none : (k : ℕ) → k ≡ or_own k 0
or_own-none zero = refl
or_own-none (suc k) = rw (lt-ltb 0 (suc k) (omega arith))

or_own-zero : (k own : ℕ) → or_own k own ≡ 0 → k ≡ 0
or_own-zero zero own h = refl
or_own-zero (suc k) own h = rw (lt-ltb 0 (suc k) (omega arith)) at h

module _ (n x y l r : ℕ) where
  -- `current` has what `get` gives where `own` are the cell's own numbers
  pub record Holds (w current own : List ℕ) : Type 0 where
    pub twelve : length current ≡ 12
    pub own-twelve : length own ≡ 12
    pub numbers : (e : ℕ) → e < 12 → get_or current e 0 ≡ get_memory n x y e (in_cell w l r own)

  found_all-at : (e : ℕ) (w own : List ℕ) → e < 12 → get_or (found_all n x y l r w) e 0 ≡ found_memory n x y e (in_cell w l r own)
  unfolding found_memory get_column
  found_all-at zero w own h = refl
  found_all-at (suc zero) w own h = refl
  found_all-at (suc (suc zero)) w own h = refl
  found_all-at (suc (suc (suc zero))) w own h = refl
  found_all-at (suc (suc (suc (suc zero)))) w own h = refl
  found_all-at (suc (suc (suc (suc (suc zero))))) w own h = refl
  found_all-at (suc (suc (suc (suc (suc (suc zero)))))) w own h = refl
  found_all-at (suc (suc (suc (suc (suc (suc (suc zero))))))) w own h = refl
  found_all-at (suc (suc (suc (suc (suc (suc (suc (suc zero)))))))) w own h = refl
  found_all-at (suc (suc (suc (suc (suc (suc (suc (suc (suc zero))))))))) w own h = refl
  found_all-at (suc (suc (suc (suc (suc (suc (suc (suc (suc (suc zero)))))))))) w own h = refl
  found_all-at (suc (suc (suc (suc (suc (suc (suc (suc (suc (suc (suc zero))))))))))) w own h = refl
  found_all-at (suc (suc (suc (suc (suc (suc (suc (suc (suc (suc (suc (suc e)))))))))))) w own h = absurd (omega arith)

  pub holds-start : (w : List ℕ) → Holds w (found_all n x y l r w) (replicate 12 0)
  unfolding get_memory
  holds-start w =
      record {
        twelve = refl;
        own-twelve = length-replicate {A = ℕ} 12 0;
        numbers = λ e h.
            found_all-at e w (replicate 12 0) h
            ∙ or_own-none (found_memory n x y e (in_cell w l r (replicate 12 0)))
            ∙ ap (or_own (found_memory n x y e (in_cell w l r (replicate 12 0)))) (sym (get_or-replicate 12 e 0 0 h));
      }

-- ---- a put leaves what is read

set_if : (b : Bool) (w : List ℕ) (i j v : ℕ) → (b ≡ true → j ≡ i → ⊥) → get_or (cond b (set w i v) w) j 0 ≡ get_or w j 0
set_if true w i j v h = get_or-set_other w i j v 0 (h refl)
set_if false w i j v h = refl

cond_both : (b : Bool) (i j k m : ℕ) → (b ≡ true → i ≡ j) → k ≡ m → cond b i k ≡ cond b j m
cond_both true i j k m h e = h refl
cond_both false i j k m h e = e

in_layer-lt : (e : ℕ) → in_layer e ≡ true → e - 4 < 4
unfolding in_layer
in_layer-lt e h =
    let a = leb-true 4 e (and_left (leb 4 e) (leb e 7) h) in
    let b = leb-true e 7 (and_right (leb 4 e) (leb e 7) h) in
    omega arith

module _ (n x y l r : ℕ) (lx : x < n) (ly : y < n) (ll : l ≤ 1) (lr : r ≤ 1) where
  abbrev both : ℕ → ℕ → List ℕ → List ℕ
  both e i w = put_row n (1 - r) x e i (put_layer n (1 - l) x y e i w)

  -- a place that is in neither of the two that are written
  read_kept : (e i j : ℕ) (w : List ℕ)
      → ((d : ℕ) → d < 3 → j ≡ row_place n (1 - r) x d → ⊥)
      → ((d : ℕ) → d < 4 → j ≡ layer_place (1 - l) (y * n + x) d → ⊥)
      → get_or (both e i w) j 0 ≡ get_or w j 0
  unfolding put_row put_layer
  read_kept e i j w no_row no-layer =
      set_if (ltb (put_column e) 3) (put_layer n (1 - l) x y e i w) (row_place n (1 - r) x (put_column e)) j i
      (λ t q. no_row (put_column e) (ltb-true (put_column e) 3 t) q)
      ∙ set_if (in_layer e) w (layer_place (1 - l) (y * n + x) (e - 4)) j i (λ t q. no-layer (e - 4) (in_layer-lt e t) q)

  found-kept : (e i k : ℕ) (w own : List ℕ) → found_memory n x y k (put_memory n x y e i (in_cell w l r own)) ≡ found_memory n x y k (in_cell w l r own)
  unfolding found_memory put_memory
  found-kept e i k w own =
      let p = place-lt n x y lx ly in
      cond_both (leb k 3) _ _ _ _
      (λ t. let h = leb-true k 3 t in read_kept e i (layer_place l (y * n + x) k) w (λ d a q. omega arith) (λ d a q. omega arith))
      (cond_both (ltb (get_column k) 3) _ _ _ _
      (λ t. let h = ltb-true (get_column k) 3 t in read_kept e i (row_place n r x (get_column k)) w (λ d a q. omega arith) (λ d a q. omega arith))
      refl)

  -- a number that was absent is put: from then on `current` has it, as the cell's own
  pub holds-put : (e i : ℕ) (w current own : List ℕ) → e < 12 → get_or current e 0 ≡ 0 → Holds n x y l r w current own
      → Holds n x y l r (both e i w) (set current e i) (set own e i)
  unfolding get_memory put_memory
  holds-put e i w current own h none s =
      record {
        twelve = length-set current e i ∙ s.twelve;
        own-twelve = length-set own e i ∙ s.own-twelve;
        numbers = λ k lk. number k (found-kept e i k w own) (s.numbers k lk);
      }
    where
      number : (k : ℕ) {f g : ℕ} → g ≡ f → get_or current k 0 ≡ or_own f (get_or own k 0) → get_or (set current e i) k 0 ≡ or_own g (get_or (set own e i) k 0)
      number k {f} {g} kept old =
          ⊎_elim
          (λ (t : eqb k e ≡ true).
          let q : k ≡ e = eqb-true k e t in
          let empty : f ≡ 0 = or_own-zero f (get_or own k 0) (sym old ∙ ap (λ (j : ℕ). get_or current j 0) q ∙ none) in
          rw (q, kept, empty)
          (get_or-set_same current e i 0 (let a = s.twelve in omega arith) ∙ sym (get_or-set_same own e i 0 (let a = s.own-twelve in omega arith))))
          (λ (t : eqb k e ≡ false).
          get_or-set_other current e k i 0 (eqb-false k e t) ∙ old ∙ rw (kept, get_or-set_other own e k i 0 (eqb-false k e t)))
          (bool_cases (eqb k e))
