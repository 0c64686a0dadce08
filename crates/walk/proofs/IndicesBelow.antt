-- Every index is the number of a vertex that is made, when it is written and ever after: in both numberings, since what is remembered are numbers
-- that were given.
use mathlib.Core.Path.{◌≡◌, refl, sym, ap, ◌∙◌, subst}
use mathlib.Core.Bool.{Bool, true, false, cond, ◌||◌}
use mathlib.Core.List.{[], ◌∷◌, ◌++◌}
use Prim.Native.Nat.{ℕ, zero, suc, ◌+◌, ◌-◌, ◌*◌, ◌<◌, ◌≤◌}
use native.Mathlib.Nat.{not-suc-le-zero}
use native.Mathlib.Omega.{arith}
use lib.Dec.{eqb, ltb, leb}
use lib.ListN.{length}
use Rattle.walk.specs.Walk.{Visit, Inside, visit_of, cell_edges}
use Rattle.walk.specs.Edges.{edge_of}
use Rattle.walk.specs.Cache.{Cache, fresh, stored, put_column, get_column, in_layer, put, found, get, advance_cell, advance_row, advance_layer}
use Rattle.walk.specs.Numbering.{Numbering, Mesh, empty, choose, hooks, mesh, joined, number, crate}
use Rattle.walk.proofs.Each.{Each, length-snoc, each_snoc}
use Rattle.walk.proofs.WalkInduction.{Steps, Alone, before, walk-holds, visit-holds}
use Rattle.walk.proofs.FirstUse.{number-le, one_more-suc}

-- ---- any numbering that remembers given numbers

-- with `made` vertices made, the memory c gives only numbers under that
pub record Sound {C : Type 0} (Holds : ℕ → C → Type 0) (m : Numbering C) : Type 0 where
  pub look : (v : Visit) (made : ℕ) (c : C) (i : ℕ) → Holds made c → m.look v c ≡ suc i → i < made
  pub note : (v : Visit) (made : ℕ) (c : C) → Holds made c → Holds (made + 1) (m.note v made c)
  pub cell_end : (made : ℕ) (c : C) → Holds made c → Holds made (m.cell_end c)
  pub row_end : (made : ℕ) (c : C) → Holds made c → Holds made (m.row_end c)
  pub layer_end : (made : ℕ) (c : C) → Holds made c → Holds made (m.layer_end c)

pub record Bounded {C : Type 0} (Holds : ℕ → C → Type 0) (s : Mesh C) : Type 0 where
  pub memory : Holds (length s.made) s.memory
  pub indices : Each (λ i. i < length s.made) 0 s.indices

module _ {C : Type 0} (Holds : ℕ → C → Type 0) (m : Numbering C) (q : Sound Holds m) where
  choose-bounded : (i : ℕ) (v : Visit) (s : Mesh C) → m.look v s.memory ≡ i → Bounded Holds s → Bounded Holds (choose m i v s)
  unfolding choose
  choose-bounded zero v s h p =
      let l = length-snoc s.made v in
      record {
        memory = subst (λ (k : ℕ). Holds k (m.note v (length s.made) s.memory)) (sym l) (q.note v (length s.made) s.memory p.memory);
        indices = each_snoc (λ i. i < length (s.made ++ (v ∷ []))) 0 s.indices (length s.made) (λ i b. let a = p.indices i b in omega arith) (omega arith);
      }
  choose-bounded (suc i) v s h p =
      record {
        memory = p.memory;
        indices = each_snoc (λ i. i < length s.made) 0 s.indices i p.indices (q.look v (length s.made) s.memory i p.memory h);
      }

  bounded-steps : (g : Inside) (n layers : ℕ) → Steps g n layers (hooks m) (hooks m) (Alone (λ z y x j. Bounded Holds))
  unfolding hooks
  bounded-steps g n layers =
      record {
        visit = λ z y x j s t lz ly lx lj p. choose-bounded (m.look (visit_of g x y z j) s.memory) (visit_of g x y z j) s refl p;
        cell_end = λ z y x s t lz ly lx p. record { memory = q.cell_end _ _ p.memory; indices = p.indices };
        row_end = λ z y s t lz ly p. record { memory = q.row_end _ _ p.memory; indices = p.indices };
        layer_end = λ z s t lz p. record { memory = q.layer_end _ _ p.memory; indices = p.indices };
      }

  module _ (c : C) (start : Holds 0 c) (g : Inside) (n layers : ℕ) where
    started : Bounded Holds (empty c)
    started = record { memory = start; indices = λ i h. absurd (not-suc-le-zero h) }

    pub bounded-end : Bounded Holds (mesh m c g n layers)
    unfolding mesh
    bounded-end = walk-holds g n layers (hooks m) (λ z y x j. Bounded Holds) (bounded-steps g n layers) (empty c) started

    -- and before each visit, which for suc j is after visit j
    pub bounded-before : (z y x j : ℕ) → z < layers → y < n - 1 → x < n - 1 → j ≤ length (cell_edges g x y z)
        → Bounded Holds (before (hooks m) g n z y x j (empty c))
    bounded-before z y x j lz ly lx lj =
        visit-holds g n layers (hooks m) (λ z y x j. Bounded Holds) (bounded-steps g n layers) z y x j lz ly lx lj (empty c) started

-- ---- joined

pub joined-sound : Sound (λ made ms. length ms ≡ made) joined
unfolding joined
joined-sound =
    record {
      look = λ v made ms i p h. let a = number-le (edge_of v) ms in let b : number (edge_of v) ms ≡ suc i = h in omega arith;
      note = λ v made ms p. length-snoc ms (edge_of v) ∙ ap (λ (k : ℕ). k + 1) p;
      cell_end = λ made ms p. p;
      row_end = λ made ms p. p;
      layer_end = λ made ms p. p;
    }

-- ---- crate

-- every entry is 0 or a number under `made`
pub record Held (made : ℕ) (c : Cache) : Type 0 where
  pub layers0 : (p d : ℕ) → c.layers0 p d ≤ made - 1
  pub layers1 : (p d : ℕ) → c.layers1 p d ≤ made - 1
  pub rows0 : (x d : ℕ) → c.rows0 x d ≤ made - 1
  pub rows1 : (x d : ℕ) → c.rows1 x d ≤ made - 1
  pub cells0 : (i : ℕ) → c.cells0 i ≤ made - 1
  pub cells1 : (i : ℕ) → c.cells1 i ≤ made - 1
  pub current : (e : ℕ) → c.current e ≤ made - 1

-- both branches of a choice
cond-le : (b : Bool) (i j k : ℕ) → i ≤ k → j ≤ k → cond b i j ≤ k
cond-le true i j k p q = p
cond-le false i j k p q = q

stored-le : (f : ℕ → ℕ) (i v k : ℕ) → ((j : ℕ) → f j ≤ k) → v ≤ k → (j : ℕ) → stored f i v j ≤ k
unfolding stored
stored-le f i v k p q j = cond-le (eqb j i) v (f j) k q (p j)

plane-le : (f : ℕ → ℕ → ℕ) (i d v k : ℕ) → ((j c : ℕ) → f j c ≤ k) → v ≤ k → (j c : ℕ) → stored f i (stored (f i) d v) j c ≤ k
unfolding stored
plane-le f i d v k p q j c = at (eqb j i)
  where
    at : (b : Bool) → cond b (stored (f i) d v) (f j) c ≤ k
    at true = stored-le (f i) d v k (p i) q c
    at false = p j c

if-le : (b : Bool) (f h : ℕ → ℕ → ℕ) (k : ℕ) → ((j c : ℕ) → f j c ≤ k) → ((j c : ℕ) → h j c ≤ k) → (j c : ℕ) → cond b f h j c ≤ k
if-le true f h k p q j c = p j c
if-le false f h k p q j c = q j c

row-if-le : (b : Bool) (f h : ℕ → ℕ) (k : ℕ) → ((j : ℕ) → f j ≤ k) → ((j : ℕ) → h j ≤ k) → (j : ℕ) → cond b f h j ≤ k
row-if-le true f h k p q j = p j
row-if-le false f h k p q j = q j

get-le : (n x y e made : ℕ) (c : Cache) → Held made c → get n x y e c ≤ made - 1
unfolding get found
get-le n x y e made c h =
    let f : found n x y e c ≤ made - 1 =
    cond-le (leb e 3) _ _ _ (h.layers0 (y * n + x) e)
    (cond-le (ltb (get_column e) 3) _ _ _ (h.rows0 x (get_column e)) (cond-le (eqb e 7 || eqb e 11) _ _ _ (h.cells0 1) (omega arith))) in
    cond-le (ltb 0 (found n x y e c)) _ _ _ f (h.current e)

put-held : (n x y e made : ℕ) (c : Cache) → Held made c → Held (made + 1) (put n x y e made c)
unfolding put
put-held n x y e made c h =
    record {
      layers0 = λ p d. let a = h.layers0 p d in omega arith;
      layers1 =
          (let kept : (p d : ℕ) → c.layers1 p d ≤ made + 1 - 1 = λ p d. (let a = h.layers1 p d in omega arith) in
          if-le (in_layer e) _ _ _ (plane-le c.layers1 (y * n + x) (e - 4) made _ kept (omega arith)) kept);
      rows0 = λ p d. let a = h.rows0 p d in omega arith;
      rows1 =
          (let kept : (x d : ℕ) → c.rows1 x d ≤ made + 1 - 1 = λ x d. (let a = h.rows1 x d in omega arith) in
          if-le (ltb (put_column e) 3) _ _ _ (plane-le c.rows1 x (put_column e) made _ kept (omega arith)) kept);
      cells0 = λ i. let a = h.cells0 i in omega arith;
      cells1 =
          (let kept : (i : ℕ) → c.cells1 i ≤ made + 1 - 1 = λ i. (let a = h.cells1 i in omega arith) in
          row-if-le (eqb e 5 || eqb e 10) _ _ _ (stored-le c.cells1 0 made _ kept (omega arith)) kept);
      current = stored-le c.current e made _ (λ i. let a = h.current i in omega arith) (omega arith);
    }

pub crate-sound : (n : ℕ) → Sound Held (crate n)
unfolding crate advance_cell advance_row advance_layer
crate-sound n =
    record {
      look = λ v made c i h e.
          let a = get-le n v.x v.y v.edge made c h in
          let b = one_more-suc (get n v.x v.y v.edge c) i e in
          let d = b.0 in
          let f = b.1 in
          omega arith;
      note = λ v made c h. put-held n v.x v.y v.edge made c h;
      cell_end = λ made c h.
          record { layers0 = h.layers0; layers1 = h.layers1; rows0 = h.rows0; rows1 = h.rows1; cells0 = h.cells1; cells1 = h.cells0; current = λ e. omega arith };
      row_end = λ made c h.
          record { layers0 = h.layers0; layers1 = h.layers1; rows0 = h.rows1; rows1 = h.rows0; cells0 = λ i. omega arith; cells1 = h.cells1; current = h.current };
      layer_end = λ made c h.
          record { layers0 = h.layers1; layers1 = h.layers0; rows0 = λ x d. omega arith; rows1 = h.rows1; cells0 = λ i. omega arith; cells1 = h.cells1; current = h.current };
    }

pub fresh-held : Held 0 fresh
unfolding fresh
fresh-held =
    record {
      layers0 = λ p d. omega arith;
      layers1 = λ p d. omega arith;
      rows0 = λ x d. omega arith;
      rows1 = λ x d. omega arith;
      cells0 = λ i. omega arith;
      cells1 = λ i. omega arith;
      current = λ e. omega arith;
    }
