-- A list of edges made one after the other is the same list made by ranks, then counted; and by ranks in any order.
use mathlib.Core.Path.{◌≡◌, refl, sym, ap, ap₂, ◌∙◌}
use mathlib.Core.Bool.{Bool, true, false, not, ◌&&◌, false≢true}
use mathlib.Core.List.{List, [], ◌∷◌, ◌++◌}
use Prim.Native.Nat.{ℕ, suc, ◌+◌, ◌-◌, ◌*◌, ◌/◌, ◌%◌, ◌<◌, ◌≤◌}
use native.Mathlib.Nat.{add-zero, zero-add}
use native.Mathlib.Omega.{arith}
use lib.Dec.{T, eqb, ltb}
use lib.ListN.{length, set}
use lib.Seq.{set_comm}
use borrow.Author.Tests.{eq-eqb, ltb-true}
use Rattle.marching_cubes_tables.proofs.Tests.{both_left, both_right}
use Rattle.walk.specs.Walk.{Visit, times}
use Rattle.walk.specs.Edges.{edge_of}
use Rattle.walk.proofs.GridEdges.{edge_of-same}
use Rattle.walk.proofs.OwnedCells.{fold, times-fold}
use Rattle.walk_models.specs.Lent.{Lent}
use Rattle.walk_models.specs.Owned.{edge_visit, slot, make_edge}
use Rattle.walk_models.proofs.AnyOrder.{ranked_from, ranked, apart, sorted, all_free, fold-sorted}
use Rattle.walk_models.proofs.Window.{Live, edge_of-live, slot-injective}
use Rattle.packed_tables.specs.Unpacked.{Edges, marked}
use Rattle.joined_slots.specs.OneCell.{each}
use Rattle.inner_cells.specs.Ranked.{make_ranked, hand}

-- ---- two lists, one after the other

fold-append : {S : Type 0} (step : ℕ → S → S) (ps qs : List ℕ) (s : S) → fold step (ps ++ qs) s ≡ fold step qs (fold step ps s)
unfolding fold
fold-append step [] qs s = refl
fold-append step (p ∷ ps) qs s = fold-append step ps qs (step p s)

each_append : {S : Type 0} (step : ℕ → S → S) (ps qs : List ℕ) (s : S) → each step (ps ++ qs) s ≡ each step qs (each step ps s)
unfolding each
each_append step ps qs s =
    times-fold step 0 (ps ++ qs) s ∙ fold-append step ps qs s ∙ sym (times-fold step 0 qs (each step ps s) ∙ ap (fold step qs) (times-fold step 0 ps s))

pub each_both : {S : Type 0} (step : ℕ → S → S) (ps qs : List ℕ) (s t u : S) → t ≡ each step ps s → u ≡ each step qs t → u ≡ each step (ps ++ qs) s
each_both step ps qs s t u et eu = eu ∙ ap (each step qs) et ∙ sym (each_append step ps qs s)

-- ---- two pairs that are apart

abbrev edges : ℕ → ℕ → Bool
edges p q = ltb (p % 16) 12 && ltb (q % 16) 12

abbrev differ : ℕ → ℕ → Bool
differ p q = not (eqb (p % 16) (q % 16)) && not (eqb (p / 16) (q / 16))

pub record Apart (p q : ℕ) : Type 0 where
  pub first : p % 16 < 12
  pub second : q % 16 < 12
  pub edges-differ : eqb (p % 16) (q % 16) ≡ false
  pub ranks-differ : p / 16 ≡ q / 16 → ⊥

not_T : (b : Bool) → T (not b) → b ≡ false
not_T true t = absurd t
not_T false t = refl

T-eq : (b : Bool) → T b → b ≡ true
T-eq true t = refl
T-eq false t = absurd t

pub apart-known : (p q : ℕ) → T (apart p q) → Apart p q
apart-known p q t =
    let in_Cell = both_left (edges p q) (differ p q) t in
    let d = both_right (edges p q) (differ p q) t in
    record {
      first = ltb-true (p % 16) 12 (T-eq _ (both_left (ltb (p % 16) 12) (ltb (q % 16) 12) in_Cell));
      second = ltb-true (q % 16) 12 (T-eq _ (both_right (ltb (p % 16) 12) (ltb (q % 16) 12) in_Cell));
      edges-differ = not_T _ (both_left (not (eqb (p % 16) (q % 16))) (not (eqb (p / 16) (q / 16))) d);
      ranks-differ = λ e.
          false≢true
          (sym (not_T _ (both_right (not (eqb (p % 16) (q % 16))) (not (eqb (p / 16) (q / 16))) d)) ∙ eq-eqb (p / 16) (q / 16) e);
    }

module _ {B : Type 0} (store : Visit → ℕ → B → B) (n x y z : ℕ) where
  abbrev by_rank : ℕ → Lent (List ℕ) B → Lent (List ℕ) B
  by_rank = make_ranked store n z y x

  abbrev place : ℕ → ℕ
  place e = slot n (edge_of (edge_visit x y z e))

  abbrev counted : ℕ → Lent (List ℕ) B → Lent (List ℕ) B
  counted k w = record { memory = w.memory; vertices = w.vertices; indices = w.indices; made = w.made + k; written = w.written }

  -- ---- one edge

  pub marked-absent : (e mark : ℕ) (w : Lent (List ℕ) B) → mark ≤ 0 → w ≡ each by_rank (marked e mark) w
  unfolding each times
  marked-absent e mark w h = let none : mark ≡ 0 = omega arith in rw none

  pub marked-present : (e mark made written at : ℕ) (work l v : List ℕ) (b c : B) → at ≡ place e → e < 12 → 0 < mark
      → v ≡ set work at (made + (mark - 1)) → c ≡ store (edge_visit x y z e) (made + (mark - 1)) b
      → hand v c l made written ≡ each by_rank (marked e mark) (hand work b l made written)
  unfolding each times make_ranked
  marked-present e mark made written at work l v b c ep he some ev ec =
      let rank : ℕ = mark - 1 in
      let is : mark ≡ suc rank = omega arith in
      let edge-is : (e + 16 * rank) % 16 ≡ e = omega arith in
      let rank_is : (e + 16 * rank) / 16 ≡ rank = omega arith in
      ap₂ (λ (m : List ℕ) (d : B). hand m d l made written) (ev ∙ ap (λ (k : ℕ). set work k (made + rank)) ep) ec
      ∙ ap₂ (λ (i r : ℕ). hand (set work (place i) (made + r)) (store (edge_visit x y z i) (made + r) b) l made written) (sym edge-is) (sym rank_is)
      ∙ ap (λ (k : ℕ). each by_rank (marked e k) (hand work b l made written)) (sym is)

  -- ---- in order

  one-ranked : (e k : ℕ) (w : Lent (List ℕ) B) → e < 12 → make_edge store n z y x e (counted k w) ≡ counted (suc k) (by_rank (e + 16 * k) w)
  unfolding make_edge make_ranked
  one-ranked e k w h =
      let edge : (e + 16 * k) % 16 ≡ e = omega arith in
      let rank : (e + 16 * k) / 16 ≡ k = omega arith in
      let one : w.made + k + 1 ≡ w.made + suc k = omega arith in
      rw (edge, rank, one)

  ranked-from : (es : List ℕ) (k : ℕ) (w : Lent (List ℕ) B) → Edges es
      → fold (make_edge store n z y x) es (counted k w) ≡ counted (k + length es) (fold by_rank (ranked_from k es) w)
  unfolding fold Edges
  ranked-from [] k w h = ap (λ (i : ℕ). counted i w) (sym (add-zero k))
  ranked-from (e ∷ es) k w h =
      let more : suc k + length es ≡ k + suc (length es) = omega arith in
      ap (fold (make_edge store n z y x) es) (one-ranked e k w h.0)
      ∙ ranked-from es (suc k) (by_rank (e + 16 * k) w) h.1
      ∙ ap (λ (i : ℕ). counted i (fold by_rank (ranked_from (suc k) es) (by_rank (e + 16 * k) w))) more

  -- ---- in any order

  module _ (hx : x + 1 < n) (hy : y + 1 < n)
      (stores-exchange : (v u : Visit) (i j : ℕ) (b : B) → (i ≡ j → ⊥) → store v i (store u j b) ≡ store u j (store v i b)) where
    places-differ : (d e : ℕ) → d < 12 → e < 12 → eqb d e ≡ false → place d ≡ place e → ⊥
    places-differ d e hd he f q =
        let live : (i : ℕ) → i < 12 → Live n z (edge_of (edge_visit x y z i)) = λ i hi. edge_of-live n x y z i (omega arith) (omega arith) hi in
        false≢true (sym f ∙ sym (edge_of-same x y z d e hd he) ∙ slot-injective n z _ _ (live d hd) (live e he) q)

    exchange : (p q : ℕ) (w : Lent (List ℕ) B) → T (apart p q) → by_rank p (by_rank q w) ≡ by_rank q (by_rank p w)
    unfolding make_ranked
    exchange p q w t =
        let a = apart-known p q t in
        ap₂ (λ (m : List ℕ) (b : B). hand m b w.indices w.made w.written)
        (set_comm w.memory (place (q % 16)) (place (p % 16)) (w.made + q / 16) (w.made + p / 16)
        (λ e. places-differ (p % 16) (q % 16) a.first a.second a.edges-differ (sym e)))
        (stores-exchange (edge_visit x y z (p % 16)) (edge_visit x y z (q % 16)) (w.made + p / 16) (w.made + q / 16) w.vertices
        (λ e. a.ranks-differ (omega arith)))

    -- from what is made by marks, once it is counted
    pub marked-made : (es ps : List ℕ) (before after : Lent (List ℕ) B) → Edges es → T (all_free apart (ranked es)) → sorted (ranked es) ≡ ps
        → after ≡ each by_rank ps before → counted (length es) after ≡ each (make_edge store n z y x) es before
    unfolding each
    marked-made es ps before after known All-apart e h =
        let whole : counted 0 before ≡ before = rw add-zero in
        ap (counted (length es)) (h ∙ times-fold by_rank 0 ps before ∙ ap (λ (l : List ℕ). fold by_rank l before) (sym e) ∙ fold-sorted apart by_rank exchange (ranked es) before All-apart)
        ∙ ap (λ (k : ℕ). counted k (fold by_rank (ranked es) before)) (sym (zero-add (length es)))
        ∙ sym (ranked-from es 0 before known)
        ∙ ap (fold (make_edge store n z y x) es) whole
        ∙ sym (times-fold (make_edge store n z y x) 0 es before)
