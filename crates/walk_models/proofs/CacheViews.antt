-- The four arrays of the index cache in one list of lent words: a store to one of them, the two swaps, and the clearing of a row, each seen at every
-- place of every array. What lies past 8n² + 6n words stays as it was.
use mathlib.Core.Path.{◌≡◌, refl, ap, ◌∙◌}
use mathlib.Core.Logic.{◌⊎◌, inl, inr, ⊎_elim}
use mathlib.Core.Bool.{true, false}
use mathlib.Core.List.{List, [], ◌∷◌}
use Prim.Native.Nat.{ℕ, zero, suc, ◌+◌, ◌-◌, ◌*◌, ◌<◌, ◌≤◌}
use native.Mathlib.Nat.{not-suc-le-zero}
use native.Mathlib.Decide.{dec_lt}
use native.Mathlib.Omega.{arith}
use lib.Dec.{eqb}
use lib.ListN.{length, get_or, set, drop, length-set}
use lib.Seq.{get_or-set_same, get_or-set_other, drop-set-lt}
use borrow.Author.Tests.{eqb-true, eqb-false}
use Rattle.walk.specs.Walk.{times}
use Rattle.walk.specs.Cache.{stored}
use Rattle.walk.proofs.Bools.{bool_cases}
use Rattle.walk_models.specs.CacheMemory.{layer_place, row_place, clear_row}

-- ---- a store to one place of an array that lies in a longer list, seen at any place of that array

pub line_set : (l : List ℕ) (f : ℕ → ℕ) (i j v : ℕ) → i < length l → get_or l j 0 ≡ f j → get_or (set l i v) j 0 ≡ stored f i v j
unfolding stored
line_set l f i j v room old =
    ⊎_elim
    (λ (t : eqb j i ≡ true). let e : j ≡ i = eqb-true j i t in rw (t, e) (get_or-set_same l i v 0 room))
    (λ (t : eqb j i ≡ false). rw t (get_or-set_other l i j v 0 (eqb-false j i t) ∙ old))
    (bool_cases (eqb j i))

pub plane-set : (l : List ℕ) (f : ℕ → ℕ → ℕ) (i j p d q c v : ℕ) → j < length l → (i ≡ j → (p ≡ q) × (d ≡ c)) → (p ≡ q → d ≡ c → i ≡ j)
    → get_or l i 0 ≡ f p d → get_or (set l j v) i 0 ≡ stored f q (stored (f q) c v) p d
unfolding stored
plane-set l f i j p d q c v room apart meet old =
    ⊎_elim
    (λ (t : eqb p q ≡ true).
    let e : p ≡ q = eqb-true p q t in
    ⊎_elim
    (λ (u : eqb d c ≡ true). let k : i ≡ j = meet e (eqb-true d c u) in rw (t, u, k) (get_or-set_same l j v 0 room))
    (λ (u : eqb d c ≡ false).
    rw (t, u) (get_or-set_other l j i v 0 (λ k. eqb-false d c u (apart k).1) ∙ old ∙ ap (λ (o : ℕ). f o d) e))
    (bool_cases (eqb d c)))
    (λ (t : eqb p q ≡ false). rw t (get_or-set_other l j i v 0 (λ k. eqb-false p q t (apart k).0) ∙ old))
    (bool_cases (eqb p q))

-- ---- the four arrays in one list

pub record Views (n : ℕ) (old work : List ℕ) (l r : ℕ) (layers0 layers1 rows0 rows1 : ℕ → ℕ → ℕ) : Type 0 where
  pub l_le : l ≤ 1
  pub r-le : r ≤ 1
  pub size : length work ≡ length old
  pub tail : drop (8 * (n * n) + 6 * n) work ≡ drop (8 * (n * n) + 6 * n) old
  pub lay0 : (p d : ℕ) → p < n * n → d < 4 → get_or work (layer_place l p d) 0 ≡ layers0 p d
  pub lay1 : (p d : ℕ) → p < n * n → d < 4 → get_or work (layer_place (1 - l) p d) 0 ≡ layers1 p d
  pub row0 : (x d : ℕ) → x < n → d < 3 → get_or work (row_place n r x d) 0 ≡ rows0 x d
  pub row1 : (x d : ℕ) → x < n → d < 3 → get_or work (row_place n (1 - r) x d) 0 ≡ rows1 x d

other : (work : List ℕ) (i j v a : ℕ) → (j ≡ i → ⊥) → get_or work j 0 ≡ a → get_or (set work i v) j 0 ≡ a
other work i j v a h e = get_or-set_other work i j v 0 h ∙ e

back : (b : ℕ) → b ≤ 1 → 1 - (1 - b) ≡ b
back b h = omega arith

module _ (n : ℕ) (old : List ℕ) (room : 8 * (n * n) + 6 * n ≤ length old) where
  pub layer-store : (work : List ℕ) (l r : ℕ) (l0 l1 r0 r1 : ℕ → ℕ → ℕ) → Views n old work l r l0 l1 r0 r1 → (p d v : ℕ) → p < n * n → d < 4
      → Views n old (set work (layer_place (1 - l) p d) v) l r l0 (stored l1 p (stored (l1 p) d v)) r0 r1
  layer-store work l r l0 l1 r0 r1 s p d v hp hd =
      let a = s.l_le in
      let b = s.r-le in
      let c = s.size in
      record {
        l_le = s.l_le;
        r-le = s.r-le;
        size = length-set work (layer_place (1 - l) p d) v ∙ c;
        tail = drop-set-lt (8 * (n * n) + 6 * n) work (layer_place (1 - l) p d) v (omega arith) ∙ s.tail;
        lay0 = λ q e hq he. other work _ _ v _ (λ k. omega arith) (s.lay0 q e hq he);
        lay1 = λ q e hq he. plane-set work l1 _ _ q e p d v (omega arith) (λ k. omega arith) (λ i j. omega arith) (s.lay1 q e hq he);
        row0 = λ q e hq he. other work _ _ v _ (λ k. omega arith) (s.row0 q e hq he);
        row1 = λ q e hq he. other work _ _ v _ (λ k. omega arith) (s.row1 q e hq he);
      }

  pub row-store : (work : List ℕ) (l r : ℕ) (l0 l1 r0 r1 : ℕ → ℕ → ℕ) → Views n old work l r l0 l1 r0 r1 → (x d v : ℕ) → x < n → d < 3
      → Views n old (set work (row_place n (1 - r) x d) v) l r l0 l1 r0 (stored r1 x (stored (r1 x) d v))
  row-store work l r l0 l1 r0 r1 s x d v hx hd =
      let a = s.l_le in
      let b = s.r-le in
      let c = s.size in
      record {
        l_le = s.l_le;
        r-le = s.r-le;
        size = length-set work (row_place n (1 - r) x d) v ∙ c;
        tail = drop-set-lt (8 * (n * n) + 6 * n) work (row_place n (1 - r) x d) v (omega arith) ∙ s.tail;
        lay0 = λ q e hq he. other work _ _ v _ (λ k. omega arith) (s.lay0 q e hq he);
        lay1 = λ q e hq he. other work _ _ v _ (λ k. omega arith) (s.lay1 q e hq he);
        row0 = λ q e hq he. other work _ _ v _ (λ k. omega arith) (s.row0 q e hq he);
        row1 = λ q e hq he. plane-set work r1 _ _ q e x d v (omega arith) (λ k. omega arith) (λ i j. omega arith) (s.row1 q e hq he);
      }

  pub layer-swap : (work : List ℕ) (l r : ℕ) (l0 l1 r0 r1 : ℕ → ℕ → ℕ) → Views n old work l r l0 l1 r0 r1
      → Views n old work (1 - l) r l1 l0 r0 r1
  layer-swap work l r l0 l1 r0 r1 s =
      record {
        l_le = omega arith;
        r-le = s.r-le;
        size = s.size;
        tail = s.tail;
        lay0 = s.lay1;
        lay1 = λ p d hp hd. rw (back l s.l_le) (s.lay0 p d hp hd);
        row0 = s.row0;
        row1 = s.row1;
      }

  pub row-swap : (work : List ℕ) (l r : ℕ) (l0 l1 r0 r1 : ℕ → ℕ → ℕ) → Views n old work l r l0 l1 r0 r1 → Views n old work l (1 - r) l0 l1 r1 r0
  row-swap work l r l0 l1 r0 r1 s =
      record {
        l_le = s.l_le;
        r-le = omega arith;
        size = s.size;
        tail = s.tail;
        lay0 = s.lay0;
        lay1 = s.lay1;
        row0 = s.row1;
        row1 = λ p d hp hd. rw (back r s.r-le) (s.row0 p d hp hd);
      }

  -- ---- clearing a row

  set-zero : (l : List ℕ) (i j : ℕ) → get_or l i 0 ≡ 0 → get_or (set l j 0) i 0 ≡ 0
  set-zero [] i j h = h
  set-zero (a ∷ l) zero zero h = refl
  set-zero (a ∷ l) zero (suc j) h = h
  set-zero (a ∷ l) (suc i) zero h = h
  set-zero (a ∷ l) (suc i) (suc j) h = set-zero l i j h

  clear-size : (r k : ℕ) (w : List ℕ) → length (clear_row n r k w) ≡ length w
  unfolding clear_row times
  clear-size r zero w = refl
  clear-size r (suc k) w = simp length-set (clear-size r k w)

  clear-tail : (r k : ℕ) (w : List ℕ) → r ≤ 1 → k ≤ n → drop (8 * (n * n) + 6 * n) (clear_row n r k w) ≡ drop (8 * (n * n) + 6 * n) w
  unfolding clear_row times
  clear-tail r zero w hr hk = refl
  clear-tail r (suc k) w hr hk =
      let m : List ℕ = clear_row n r k w in
      let m0 : List ℕ = set m (row_place n r k 0) 0 in
      let m1 : List ℕ = set m0 (row_place n r k 1) 0 in
      drop-set-lt (8 * (n * n) + 6 * n) m1 (row_place n r k 2) 0 (omega arith)
      ∙ drop-set-lt (8 * (n * n) + 6 * n) m0 (row_place n r k 1) 0 (omega arith)
      ∙ drop-set-lt (8 * (n * n) + 6 * n) m (row_place n r k 0) 0 (omega arith)
      ∙ clear-tail r k w hr (omega arith)

  clear-other : (r k : ℕ) (w : List ℕ) (i : ℕ) → ((x d : ℕ) → x < k → d < 3 → i ≡ row_place n r x d → ⊥)
      → get_or (clear_row n r k w) i 0 ≡ get_or w i 0
  unfolding clear_row times
  clear-other r zero w i h = refl
  clear-other r (suc k) w i h =
      let m : List ℕ = clear_row n r k w in
      let m0 : List ℕ = set m (row_place n r k 0) 0 in
      let m1 : List ℕ = set m0 (row_place n r k 1) 0 in
      get_or-set_other m1 (row_place n r k 2) i 0 0 (h k 2 (omega arith) (omega arith))
      ∙ get_or-set_other m0 (row_place n r k 1) i 0 0 (h k 1 (omega arith) (omega arith))
      ∙ get_or-set_other m (row_place n r k 0) i 0 0 (h k 0 (omega arith) (omega arith))
      ∙ clear-other r k w i (λ x d a b. h x d (omega arith) b)

  three : (d : ℕ) → d < 3 → (d ≡ 0) ⊎ ((d ≡ 1) ⊎ (d ≡ 2))
  three zero h = inl refl
  three (suc zero) h = inr (inl refl)
  three (suc (suc d)) h = inr (inr (omega arith))

  clear_zero : (r k : ℕ) (w : List ℕ) (x d : ℕ) → 8 * (n * n) + 6 * k ≤ length w → r ≤ 1 → x < k → d < 3
      → get_or (clear_row n r k w) (row_place n r x d) 0 ≡ 0
  unfolding clear_row times
  clear_zero r zero w x d l b h c = absurd (not-suc-le-zero h)
  clear_zero r (suc k) w x d l b h c =
      let m : List ℕ = clear_row n r k w in
      let ml : length m ≡ length w = clear-size r k w in
      let m0 : List ℕ = set m (row_place n r k 0) 0 in
      let l0 : length m0 ≡ length w = simp length-set ml in
      let m1 : List ℕ = set m0 (row_place n r k 1) 0 in
      let l1 : length m1 ≡ length w = simp length-set ml in
      elim (dec_lt x k) [
        | yes q ↦
            set-zero m1 (row_place n r x d) (row_place n r k 2)
            (set-zero m0 (row_place n r x d) (row_place n r k 1) (set-zero m (row_place n r x d) (row_place n r k 0) (clear_zero r k w x d (omega arith) b q c)))
        | no q ↦
            let e : x ≡ k = omega arith in
            ⊎_elim
            (λ (t : d ≡ 0).
            rw (e, t) (set-zero m1 (row_place n r k 0) (row_place n r k 2) (set-zero m0 (row_place n r k 0) (row_place n r k 1) (get_or-set_same m (row_place n r k 0) 0 0 (omega arith)))))
            (λ (u : (d ≡ 1) ⊎ (d ≡ 2)).
            ⊎_elim
            (λ (t : d ≡ 1). rw (e, t) (set-zero m1 (row_place n r k 1) (row_place n r k 2) (get_or-set_same m0 (row_place n r k 1) 0 0 (omega arith))))
            (λ (t : d ≡ 2). rw (e, t) (get_or-set_same m1 (row_place n r k 2) 0 0 (omega arith)))
            u)
            (three d c)
      ]

  pub row-cleared : (w : List ℕ) (l r : ℕ) (l0 l1 r0 r1 : ℕ → ℕ → ℕ) → Views n old w l r l0 l1 r0 r1
      → Views n old (clear_row n r n w) l r l0 l1 (λ x d. 0) r1
  row-cleared w l r l0 l1 r0 r1 s =
      let a = s.l_le in
      let b = s.r-le in
      let z = s.size in
      record {
        l_le = s.l_le;
        r-le = s.r-le;
        size = clear-size r n w ∙ z;
        tail = clear-tail r n w b (omega arith) ∙ s.tail;
        lay0 = λ p d hp hd. clear-other r n w _ (λ x c i j e. omega arith) ∙ s.lay0 p d hp hd;
        lay1 = λ p d hp hd. clear-other r n w _ (λ x c i j e. omega arith) ∙ s.lay1 p d hp hd;
        row0 = λ x d hx hd. clear_zero r n w x d (omega arith) b hx hd;
        row1 = λ x d hx hd. clear-other r n w _ (λ u c i j e. omega arith) ∙ s.row1 x d hx hd;
      }
