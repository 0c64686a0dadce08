-- One cell of the crate numbering as a count sees it. Of a number in the index cache it matters only whether it is 0: a visit finds its edge or makes it, and
-- once vertex 0 is made, what is made is found from then on. So a cell makes the edges that its row names and that are not found at its start, each once.
use mathlib.Core.Path.{◌≡◌, refl, sym, ap, ap₂, ◌∙◌, subst}
use mathlib.Core.Logic.{⊎_elim}
use mathlib.Core.Bool.{Bool, true, false, cond, not, ◌&&◌, ◌||◌, beq, and-false, or-false, true≢false, false≢true}
use mathlib.Core.List.{List, [], ◌∷◌, ◌++◌}
use Prim.Native.Nat.{ℕ, suc, ◌+◌, ◌-◌, ◌*◌, ◌<◌}
use native.Mathlib.Omega.{arith}
use lib.Dec.{T, eqb, leb, ltb}
use lib.ListN.{length}
use borrow.Author.Tests.{eqb-true, eq-eqb, le-leb, leb-true, lt-ltb, ltb-true, ltb-false}
use Rattle.marching_cubes_tables.specs.Rule.{member}
use Rattle.marching_cubes_tables.proofs.Tests.{beq-eq}
use Rattle.walk.specs.Walk.{Visit}
use Rattle.walk.specs.Cache.{Cache, stored, put_column, in_layer, put, found, get}
use Rattle.walk.specs.Numbering.{Mesh, choose, crate, one_more}
use Rattle.walk.specs.Ownership.{new_edges}
use Rattle.walk.proofs.Below.{all_below, all_below-at}
use Rattle.walk.proofs.Bools.{bool_cases, and_left, and_right, iff-eq}
use Rattle.walk.proofs.Each.{length-snoc}
use Rattle.walk.proofs.CrateNumbering.{cells-kept, get-put}
use Rattle.walk.proofs.OwnedCells.{fold}
use Rattle.walk_models.specs.Owned.{edge_visit}
use Rattle.packed_tables.specs.Unpacked.{Edges}
use Rattle.held_bits.proofs.NameWords.{after_first, first}

-- ---- which edge a put goes to, by column

-- of a row; of a layer it is 4 + d
abbrev pub put_edge : ℕ → ℕ
put_edge d = cond (eqb d 0) 6 (cond (eqb d 1) 11 10)

layer-column : (d e : ℕ) → d < 4 → (in_layer e && eqb d (e - 4)) ≡ eqb (4 + d) e
unfolding in_layer
layer-column d e h =
    iff-eq (in_layer e && eqb d (e - 4)) (eqb (4 + d) e)
    (λ t.
    let low = leb-true 4 e (and_left (leb 4 e) (leb e 7) (and_left (in_layer e) (eqb d (e - 4)) t)) in
    let same = eqb-true d (e - 4) (and_right (in_layer e) (eqb d (e - 4)) t) in
    eq-eqb (4 + d) e (omega arith))
    (λ t.
    let same = eqb-true (4 + d) e t in
    rw (le-leb 4 e (omega arith), le-leb e 7 (omega arith), eq-eqb d (e - 4) (omega arith)))

columns-right : T (all_below 12 (λ e. all_below 3 (λ d. beq (ltb (put_column e) 3 && eqb d (put_column e)) (eqb (put_edge d) e))))
unfolding put_column
columns-right = tt

row-column : (d e : ℕ) → d < 3 → e < 12 → (ltb (put_column e) 3 && eqb d (put_column e)) ≡ eqb (put_edge d) e
row-column d e h l =
    beq-eq _ _
    (all_below-at 3 (λ d. beq (ltb (put_column e) 3 && eqb d (put_column e)) (eqb (put_edge d) e))
    (all_below-at 12 (λ e. all_below 3 (λ d. beq (ltb (put_column e) 3 && eqb d (put_column e)) (eqb (put_edge d) e))) columns-right e l) d h)

-- a store to one place of a plane, if at all, seen at any place
plane-stored : (b : Bool) (f : ℕ → ℕ → ℕ) (q k i p d : ℕ) → cond b (stored f q (stored (f q) k i)) f p d ≡ cond (eqb p q && (b && eqb d k)) i (f p d)
unfolding stored
plane-stored true f q k i p d =
    ⊎_elim (λ (t : eqb p q ≡ true). let e : p ≡ q = eqb-true p q t in rw (t, e) refl) (λ (t : eqb p q ≡ false). rw t refl) (bool_cases (eqb p q))
plane-stored false f q k i p d = rw (and-false (eqb p q)) refl

nonzero-if : (b : Bool) (i v : ℕ) → ltb 0 (cond b i v) ≡ cond b (ltb 0 i) (ltb 0 v)
nonzero-if true i v = refl
nonzero-if false i v = refl

-- ---- the Bools of one visit: a was held, b is this place, m is this edge, r names it later, w is new

made-here : (a b m r w : Bool) → (m ≡ true → w ≡ true) → (cond (b && m) true a || (b && (r && (w && not m)))) ≡ (a || (b && ((m || r) && w)))
made-here a false m r w h = refl
made-here true true true r w h = refl
made-here true true false r w h = refl
made-here false true true r true h = refl
made-here false true true r false h = absurd (false≢true (h refl))
made-here false true false true true h = refl
made-here false true false true false h = refl
made-here false true false false w h = refl

found_here : (a b m r w : Bool) → (m ≡ true → w ≡ false) → (a || (b && (r && w))) ≡ (a || (b && ((m || r) && w)))
found_here a b true r true h = absurd (true≢false (h refl))
found_here a b true true false h = refl
found_here a b true false false h = refl
found_here a b false r w h = refl

not_new : (m w : Bool) → cond m true (not w) ≡ not (w && not m)
not_new true true = refl
not_new true false = refl
not_new false true = refl
not_new false false = refl

nothing-more : (a b : Bool) → a ≡ (a || (b && false))
nothing-more a b = rw (and-false b, or-false a) refl

-- nothing but zeros
pub record Quiet (c : Cache) : Type 0 where
  pub layers0 : (p d : ℕ) → c.layers0 p d ≡ 0
  pub layers1 : (p d : ℕ) → c.layers1 p d ≡ 0
  pub rows0 : (u d : ℕ) → c.rows0 u d ≡ 0
  pub rows1 : (u d : ℕ) → c.rows1 u d ≡ 0

-- the edge has a number that does not read as absent
abbrev pub has_number : ℕ → ℕ → ℕ → Cache → ℕ → Bool
has_number n x y c e = ltb 0 (get n x y e c)

module _ (n x y z : ℕ) where
  unfoldable pub visit : ℕ → Mesh Cache → Mesh Cache
  visit e s = choose (crate n) (one_more (get n x y e s.memory)) (edge_visit x y z e) s

  -- ---- one visit

  visit-new : (e : ℕ) (s : Mesh Cache) → get n x y e s.memory ≡ 0
      → visit e s
      ≡ record { memory = put n x y e (length s.made) s.memory; made = s.made ++ (edge_visit x y z e ∷ []); indices = s.indices ++ (length s.made ∷ []) }
  unfolding visit choose crate
  visit-new e s h = ap (λ (i : ℕ). choose (crate n) (one_more i) (edge_visit x y z e) s) h

  visit-old : (e i : ℕ) (s : Mesh Cache) → get n x y e s.memory ≡ suc i
      → visit e s ≡ record { memory = s.memory; made = s.made; indices = s.indices ++ (suc i ∷ []) }
  unfolding visit choose
  visit-old e i s h = ap (λ (i : ℕ). choose (crate n) (one_more i) (edge_visit x y z e) s) h

  put-layers1 : (e i : ℕ) (c : Cache) (p d : ℕ) → d < 4
      → ltb 0 ((put n x y e i c).layers1 p d) ≡ cond (eqb p (y * n + x) && eqb (4 + d) e) (ltb 0 i) (ltb 0 (c.layers1 p d))
  unfolding put
  put-layers1 e i c p d h =
      ap (ltb 0) (plane-stored (in_layer e) c.layers1 (y * n + x) (e - 4) i p d)
      ∙ nonzero-if (eqb p (y * n + x) && (in_layer e && eqb d (e - 4))) i (c.layers1 p d)
      ∙ ap (λ (b : Bool). cond (eqb p (y * n + x) && b) (ltb 0 i) (ltb 0 (c.layers1 p d))) (layer-column d e h)

  put-rows1 : (e i : ℕ) (c : Cache) (u d : ℕ) → d < 3 → e < 12
      → ltb 0 ((put n x y e i c).rows1 u d) ≡ cond (eqb u x && eqb (put_edge d) e) (ltb 0 i) (ltb 0 (c.rows1 u d))
  unfolding put
  put-rows1 e i c u d h l =
      ap (ltb 0) (plane-stored (ltb (put_column e) 3) c.rows1 x (put_column e) i u d)
      ∙ nonzero-if (eqb u x && (ltb (put_column e) 3 && eqb d (put_column e))) i (c.rows1 u d)
      ∙ ap (λ (b : Bool). cond (eqb u x && b) (ltb 0 i) (ltb 0 (c.rows1 u d))) (row-column d e h l)

  get_other : (e i k : ℕ) (c : Cache) → eqb k e ≡ false → get n x y k (put n x y e i c) ≡ get n x y k c
  unfolding get found put stored
  get_other e i k c t = rw t refl

  has-put : (e i k : ℕ) (c : Cache) → get n x y e c ≡ 0 → has_number n x y (put n x y e i c) k ≡ cond (eqb k e) (ltb 0 i) (has_number n x y c k)
  has-put e i k c h =
      ⊎_elim
      (λ (t : eqb k e ≡ true). rw (t, eqb-true k e t) (ap (ltb 0) (get-put n x y e i c h)))
      (λ (t : eqb k e ≡ false). rw t (ap (ltb 0) (get_other e i k c t)))
      (bool_cases (eqb k e))

  -- ---- the visits of a cell

  -- t comes from s by visits, as many as `all` has; first k vertices were made, and then the new edges of es
  pub record Left (k : ℕ) (new : ℕ → Bool) (es all : List ℕ) (s t : Mesh Cache) : Type 0 where
    pub made : length t.made ≡ length s.made + k + length (new_edges new es)
    pub indices : length t.indices ≡ length s.indices + length all
    pub layers0 : t.memory.layers0 ≡ s.memory.layers0
    pub rows0 : t.memory.rows0 ≡ s.memory.rows0
    pub layers1 : (p d : ℕ) → d < 4
        → ltb 0 (t.memory.layers1 p d) ≡ (ltb 0 (s.memory.layers1 p d) || (eqb p (y * n + x) && (member (4 + d) es && new (4 + d))))
    pub rows1 : (u d : ℕ) → d < 3
        → ltb 0 (t.memory.rows1 u d) ≡ (ltb 0 (s.memory.rows1 u d) || (eqb u x && (member (put_edge d) es && new (put_edge d))))
    pub cells0 : t.memory.cells0 ≡ s.memory.cells0
    pub none1 : s.memory.cells1 1 ≡ 0 → t.memory.cells1 1 ≡ 0

  left-none : (new : ℕ → Bool) (s : Mesh Cache) → Left 0 new [] [] s s
  unfolding new_edges
  left-none new s =
      record {
        made = omega arith;
        indices = omega arith;
        layers0 = refl;
        rows0 = refl;
        layers1 = λ p d h. nothing-more (ltb 0 (s.memory.layers1 p d)) (eqb p (y * n + x));
        rows1 = λ u d h. nothing-more (ltb 0 (s.memory.rows1 u d)) (eqb u x);
        cells0 = refl;
        none1 = λ h. h;
      }

  -- the first visit makes its edge, as number i, which does not read as absent
  left-made : (e i : ℕ) (es : List ℕ) (new : ℕ → Bool) (s t : Mesh Cache) (vs : List Visit) (js : List ℕ) → e < 12 → ltb 0 i ≡ true → new e ≡ true
      → length vs ≡ length s.made + 1 → length js ≡ length s.indices + 1
      → Left 0 (λ d. new d && not (eqb d e)) es es (record { memory = put n x y e i s.memory; made = vs; indices = js }) t
      → Left 0 new (e ∷ es) (e ∷ es) s t
  unfolding new_edges put
  left-made e i es new s t vs js he hi w lv lj f =
      let fm = f.made in
      let fi = f.indices in
      record {
        made = rw w (omega arith);
        indices = omega arith;
        layers0 = f.layers0;
        rows0 = f.rows0;
        layers1 = λ p d h.
            f.layers1 p d h
            ∙ ap (λ (a : Bool). a || (eqb p (y * n + x) && (member (4 + d) es && (new (4 + d) && not (eqb (4 + d) e)))))
            (put-layers1 e i s.memory p d h ∙ ap (λ (b : Bool). cond (eqb p (y * n + x) && eqb (4 + d) e) b (ltb 0 (s.memory.layers1 p d))) hi)
            ∙ made-here (ltb 0 (s.memory.layers1 p d)) (eqb p (y * n + x)) (eqb (4 + d) e) (member (4 + d) es) (new (4 + d)) (λ q. ap new (eqb-true (4 + d) e q) ∙ w);
        rows1 = λ u d h.
            f.rows1 u d h
            ∙ ap (λ (a : Bool). a || (eqb u x && (member (put_edge d) es && (new (put_edge d) && not (eqb (put_edge d) e)))))
            (put-rows1 e i s.memory u d h he ∙ ap (λ (b : Bool). cond (eqb u x && eqb (put_edge d) e) b (ltb 0 (s.memory.rows1 u d))) hi)
            ∙ made-here (ltb 0 (s.memory.rows1 u d)) (eqb u x) (eqb (put_edge d) e) (member (put_edge d) es) (new (put_edge d)) (λ q. ap new (eqb-true (put_edge d) e q) ∙ w);
        cells0 = f.cells0;
        none1 = λ h. f.none1 (cells-kept (eqb e 5 || eqb e 10) s.memory.cells1 i h);
      }

  -- the first visit finds its edge
  left-found : (e : ℕ) (es : List ℕ) (new : ℕ → Bool) (s t : Mesh Cache) (js : List ℕ) → new e ≡ false → length js ≡ length s.indices + 1
      → Left 0 new es es (record { memory = s.memory; made = s.made; indices = js }) t → Left 0 new (e ∷ es) (e ∷ es) s t
  unfolding new_edges
  left-found e es new s t js w lj f =
      let fm = f.made in
      let fi = f.indices in
      record {
        made = rw w fm;
        indices = omega arith;
        layers0 = f.layers0;
        rows0 = f.rows0;
        layers1 = λ p d h.
            f.layers1 p d h
            ∙ found_here (ltb 0 (s.memory.layers1 p d)) (eqb p (y * n + x)) (eqb (4 + d) e) (member (4 + d) es) (new (4 + d)) (λ q. ap new (eqb-true (4 + d) e q) ∙ w);
        rows1 = λ u d h.
            f.rows1 u d h
            ∙ found_here (ltb 0 (s.memory.rows1 u d)) (eqb u x) (eqb (put_edge d) e) (member (put_edge d) es) (new (put_edge d)) (λ q. ap new (eqb-true (put_edge d) e q) ∙ w);
        cells0 = f.cells0;
        none1 = f.none1;
      }

  absent : (e : ℕ) (c : Cache) → has_number n x y c e ≡ false → get n x y e c ≡ 0
  absent e c h = let l = ltb-false 0 (get n x y e c) h in omega arith

  present : (e : ℕ) (c : Cache) → has_number n x y c e ≡ true → get n x y e c ≡ suc (get n x y e c - 1)
  present e c h = let l = ltb-true 0 (get n x y e c) h in omega arith

  -- once a vertex is made
  pub visits-left : (es : List ℕ) (new : ℕ → Bool) (s : Mesh Cache) → Edges es → ((e : ℕ) → e < 12 → has_number n x y s.memory e ≡ not (new e)) → 0 < length s.made
      → Left 0 new es es s (fold visit es s)
  unfolding fold Edges
  visits-left [] new s each held some = left-none new s
  visits-left (e ∷ es) new s each held some =
      ⊎_elim
      (λ (w : new e ≡ true).
      let none : get n x y e s.memory ≡ 0 = absent e s.memory (held e each.0 ∙ ap not w) in
      let i : ℕ = length s.made in
      let hi : ltb 0 i ≡ true = lt-ltb 0 i some in
      let next : Mesh Cache = record { memory = put n x y e i s.memory; made = s.made ++ (edge_visit x y z e ∷ []); indices = s.indices ++ (i ∷ []) } in
      let lv = length-snoc s.made (edge_visit x y z e) in
      subst (λ (u : Mesh Cache). Left 0 new (e ∷ es) (e ∷ es) s (fold visit es u)) (sym (visit-new e s none))
      (left-made e i es new s (fold visit es next) next.made next.indices each.0 hi w lv (length-snoc s.indices i)
      (visits-left es (λ d. new d && not (eqb d e)) next each.1
      (λ k l.
      has-put e i k s.memory none ∙ ap₂ (λ (b c : Bool). cond (eqb k e) b c) hi (held k l) ∙ not_new (eqb k e) (new k))
      (omega arith))))
      (λ (w : new e ≡ false).
      let number : ℕ = get n x y e s.memory in
      let some_number : number ≡ suc (number - 1) = present e s.memory (held e each.0 ∙ ap not w) in
      let next : Mesh Cache = record { memory = s.memory; made = s.made; indices = s.indices ++ (suc (number - 1) ∷ []) } in
      subst (λ (u : Mesh Cache). Left 0 new (e ∷ es) (e ∷ es) s (fold visit es u)) (sym (visit-old e (number - 1) s some_number))
      (left-found e es new s (fold visit es next) next.indices w (length-snoc s.indices (suc (number - 1)))
      (visits-left es new next each.1 held some)))
      (bool_cases (new e))

  -- ---- the cell that makes vertex 0

  quiet_if : (b : Bool) (v : ℕ) → v ≡ 0 → cond b (ltb 0 0) (ltb 0 v) ≡ ltb 0 v
  quiet_if true v h = sym (ap (ltb 0) h)
  quiet_if false v h = refl

  not_yet : (m h : Bool) → h ≡ false → cond m false h ≡ h
  not_yet true h e = sym e
  not_yet false h e = refl

  put-quiet : (e i : ℕ) (es : List ℕ) (new : ℕ → Bool) (s t : Mesh Cache) (vs : List Visit) (js : List ℕ) → e < 12 → i ≡ 0 → Quiet s.memory
      → length vs ≡ length s.made + 1 → length js ≡ length s.indices + 1
      → Left 0 new es es (record { memory = put n x y e i s.memory; made = vs; indices = js }) t
      → Left 1 new es (e ∷ es) s t
  unfolding put
  put-quiet e i es new s t vs js he hi quiet lv lj f =
      let fm = f.made in
      let fi = f.indices in
      record {
        made = omega arith;
        indices = omega arith;
        layers0 = f.layers0;
        rows0 = f.rows0;
        layers1 = λ p d h.
            f.layers1 p d h
            ∙ ap (λ (a : Bool). a || (eqb p (y * n + x) && (member (4 + d) es && new (4 + d))))
            (put-layers1 e i s.memory p d h ∙ ap (λ (j : ℕ). cond (eqb p (y * n + x) && eqb (4 + d) e) (ltb 0 j) (ltb 0 (s.memory.layers1 p d))) hi
            ∙ quiet_if (eqb p (y * n + x) && eqb (4 + d) e) (s.memory.layers1 p d) (quiet.layers1 p d));
        rows1 = λ u d h.
            f.rows1 u d h
            ∙ ap (λ (a : Bool). a || (eqb u x && (member (put_edge d) es && new (put_edge d))))
            (put-rows1 e i s.memory u d h he ∙ ap (λ (j : ℕ). cond (eqb u x && eqb (put_edge d) e) (ltb 0 j) (ltb 0 (s.memory.rows1 u d))) hi
            ∙ quiet_if (eqb u x && eqb (put_edge d) e) (s.memory.rows1 u d) (quiet.rows1 u d));
        cells0 = f.cells0;
        none1 = λ h. f.none1 (cells-kept (eqb e 5 || eqb e 10) s.memory.cells1 i h);
      }

  pub first-left : (es : List ℕ) (new : ℕ → Bool) (s : Mesh Cache) → Edges es → ((e : ℕ) → e < 12 → has_number n x y s.memory e ≡ not (new e))
      → ((e : ℕ) → e < 12 → has_number n x y s.memory e ≡ false) → Quiet s.memory → length s.made ≡ 0
      → Left (first es) new (after_first es) es s (fold visit es s)
  unfolding fold Edges
  first-left [] new s each held none quiet zero-made = left-none new s
  first-left (e ∷ es) new s each held none quiet zero-made =
      let no_number : get n x y e s.memory ≡ 0 = absent e s.memory (none e each.0) in
      let i : ℕ = length s.made in
      let next : Mesh Cache = record { memory = put n x y e i s.memory; made = s.made ++ (edge_visit x y z e ∷ []); indices = s.indices ++ (i ∷ []) } in
      let lv : length next.made ≡ i + 1 = length-snoc s.made (edge_visit x y z e) in
      let li : length next.indices ≡ length s.indices + 1 = length-snoc s.indices i in
      let f : Left 0 new es es next (fold visit es next) =
      visits-left es new next each.1
      (λ k l. has-put e i k s.memory no_number ∙ ap (λ (j : ℕ). cond (eqb k e) (ltb 0 j) (has_number n x y s.memory k)) zero-made ∙ not_yet (eqb k e) (has_number n x y s.memory k) (none k l) ∙ held k l)
      (omega arith) in
      let fm = f.made in
      let fi = f.indices in
      subst (λ (u : Mesh Cache). Left 1 new es (e ∷ es) s (fold visit es u)) (sym (visit-new e s no_number))
      (put-quiet e i es new s (fold visit es next) next.made next.indices each.0 zero-made quiet lv li f)
