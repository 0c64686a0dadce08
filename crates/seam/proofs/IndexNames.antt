-- In the joined numbering each index is the number of the grid edge that was visited, and vertices are one to one with grid edges. So the sides between
-- two vertices are those between their edges.
use mathlib.Core.Path.{◌≡◌, refl, sym, ap, ◌∙◌}
use mathlib.Core.Logic.{⊎_elim}
use mathlib.Core.Bool.{Bool, true, false, cond, ◌&&◌, ◌||◌, not, or-true, false≢true}
use mathlib.Core.List.{List, [], ◌∷◌, ◌++◌, map}
use Prim.Native.Nat.{ℕ, zero, suc, ◌<◌}
use native.Mathlib.Nat.{le_of_suc-le-suc, not-suc-le-zero}
use native.Mathlib.Omega.{arith}
use lib.Dec.{eqb}
use lib.ListN.{length, get_or, length-map, get_or-map}
use borrow.Author.Tests.{eq-eqb, ne_eqb, not-true}
use Rattle.walk.specs.Walk.{Visit, Inside, listing, visits}
use Rattle.walk.specs.Edges.{Edge, edge_of, same, has, distinct}
use Rattle.walk.specs.Numbering.{Mesh, empty, choose, hooks, mesh, joined, one_more, number}
use Rattle.walk.proofs.Bools.{bool_cases, and_left, and_right}
use Rattle.walk.proofs.Each.{length-snoc}
use Rattle.walk.proofs.GridEdges.{visit_at, same_true, same_refl}
use Rattle.walk.proofs.FirstUse.{one_more-suc, number_append, number-snoc-same}
use Rattle.walk.proofs.WalkInduction.{Steps, walk_kept}
use Rattle.walk.proofs.Ownership.{met-end}
use Rattle.seam.specs.Seam.{edge_of_vertex}
use Rattle.seam.specs.FaceRule.{sides}
use Rattle.seam.proofs.Sides.{count}

-- ---- an index for each visit

-- the indices are the numbers, among the edges ms, of the edges of the visits
data Names (ms : List Edge) : List Visit → List ℕ → Type 0 where
  none : Names ms [] []
  more : {v : Visit} {i : ℕ} {vs : List Visit} {l : List ℕ} → number (edge_of v) ms ≡ suc i → Names ms vs l → Names ms (v ∷ vs) (i ∷ l)

names-grow : {ms : List Edge} {vs : List Visit} {l : List ℕ} (k : Edge) → Names ms vs l → Names (ms ++ (k ∷ [])) vs l
names-grow k none = none
names-grow {ms} k (more {v = v} e r) = more (number_append (edge_of v) ms (k ∷ []) (omega arith) ∙ e) (names-grow k r)

names-snoc : {ms : List Edge} {vs : List Visit} {l : List ℕ} (v : Visit) (i : ℕ) → Names ms vs l → number (edge_of v) ms ≡ suc i
    → Names ms (vs ++ (v ∷ [])) (l ++ (i ∷ []))
names-snoc v i none e = more e none
names-snoc v i (more f r) e = more f (names-snoc v i r e)

record Named (s : Mesh (List Edge)) (vs : List Visit) : Type 0 where
  lengths : length s.memory ≡ length s.made
  names : Names s.memory vs s.indices

choose-named : (v : Visit) (s : Mesh (List Edge)) (vs : List Visit) (q : ℕ) → number (edge_of v) s.memory ≡ q → Named s vs
    → Named (choose joined q v s) (vs ++ (v ∷ []))
unfolding choose joined
choose-named v s vs zero h r =
    let k = edge_of v in
    let p = length-snoc s.memory k in
    let q = length-snoc s.made v in
    let n = r.lengths in
    record {
      lengths = omega arith;
      names = names-snoc v (length s.made) (names-grow k r.names) (number-snoc-same k s.memory h ∙ ap suc n);
    }
choose-named v s vs (suc q) h r = record { lengths = r.lengths; names = names-snoc v q r.names h }

module _ (g : Inside) (n layers : ℕ) where
  named-steps : Steps g n layers (hooks joined) listing (λ z y x j. Named)
  unfolding hooks joined listing
  named-steps =
      record {
        visit = λ z y x j s t lz ly lx lj r. choose-named _ s t _ refl r;
        cell_end = λ z y x s t lz ly lx r. record { lengths = r.lengths; names = r.names };
        row_end = λ z y s t lz ly r. record { lengths = r.lengths; names = r.names };
        layer_end = λ z s t lz r. record { lengths = r.lengths; names = r.names };
      }

  named : Named (mesh joined [] g n layers) (visits g n layers)
  unfolding mesh visits
  named = walk_kept g n layers (hooks joined) listing (λ z y x j. Named) named-steps (empty []) [] (record { lengths = refl; names = none })

-- ---- numbers and edges are one to one

number_at : (k : Edge) (ms : List Edge) (i : ℕ) (d : Edge) → number k ms ≡ suc i → get_or ms i d ≡ k
unfolding number
number_at k [] i d h = absurd (let e : 0 ≡ suc i = h in omega arith)
number_at k (m ∷ ms) i d h =
    ⊎_elim
    (λ (t : same k m ≡ true).
    let u : 1 ≡ suc i = rw t at h in
    let z : i ≡ 0 = omega arith in
    ap (λ (o : ℕ). get_or (m ∷ ms) o d) z ∙ sym (same_true k m t))
    (λ (f : same k m ≡ false). later (λ i. number_at k ms i d) i (one_more-suc (number k ms) i (rw f at h)))
    (bool_cases (same k m))
  where
    later : ((i : ℕ) → number k ms ≡ suc i → get_or ms i d ≡ k) → (i : ℕ) → number k ms ≡ i × 0 < number k ms → get_or (m ∷ ms) i d ≡ k
    later at zero p = absurd (let e = p.0 in let l = p.1 in omega arith)
    later at (suc i) p = at i p.0

has-at : (ms : List Edge) (i : ℕ) (d : Edge) → i < length ms → has (get_or ms i d) ms ≡ true
unfolding has
has-at [] i d h = absurd (not-suc-le-zero h)
has-at (m ∷ ms) zero d h = ap (λ (b : Bool). b || has m ms) (same_refl m)
has-at (m ∷ ms) (suc i) d h =
    ap (λ (b : Bool). same (get_or ms i d) m || b) (has-at ms i d (le_of_suc-le-suc h)) ∙ or-true (same (get_or ms i d) m)

at-number : (ms : List Edge) (i : ℕ) (d : Edge) → distinct ms ≡ true → i < length ms → number (get_or ms i d) ms ≡ suc i
unfolding number distinct
at-number [] i d h l = absurd (not-suc-le-zero l)
at-number (m ∷ ms) zero d h l = ap (λ (b : Bool). cond b 1 (one_more (number m ms))) (same_refl m)
at-number (m ∷ ms) (suc i) d h l =
    let k : Edge = get_or ms i d in
    let u : has m ms ≡ false = not-true (has m ms) (and_left (not (has m ms)) (distinct ms) h) in
    let r = at-number ms i d (and_right (not (has m ms)) (distinct ms) h) (le_of_suc-le-suc l) in
    ⊎_elim
    (λ (t : same k m ≡ true). absurd (false≢true (sym u ∙ ap (λ (o : Edge). has o ms) (sym (same_true k m t)) ∙ has-at ms i d (le_of_suc-le-suc l))))
    (λ (f : same k m ≡ false). ap (λ (b : Bool). cond b 1 (one_more (number k ms))) f ∙ ap one_more r)
    (bool_cases (same k m))

number_same : (ms : List Edge) (k a : Edge) (p i : ℕ) → number k ms ≡ suc p → number a ms ≡ suc i → eqb p i ≡ same k a
number_same ms k a p i h e =
    ⊎_elim
    (λ (t : same k a ≡ true).
    let u : suc p ≡ suc i = sym h ∙ ap (λ (o : Edge). number o ms) (same_true k a t) ∙ e in
    eq-eqb p i (omega arith) ∙ sym t)
    (λ (f : same k a ≡ false).
    ne_eqb p i
    (λ q.
    let u : k ≡ a = sym (number_at k ms p k h) ∙ ap (λ (o : ℕ). get_or ms o k) q ∙ number_at a ms i k e in
    false≢true (sym f ∙ ap (λ (o : Edge). same o a) u ∙ same_refl a))
    ∙ sym f)
    (bool_cases (same k a))

-- ---- sides

module _ (ms : List Edge) (a b : Edge) (i j : ℕ) (ea : number a ms ≡ suc i) (eb : number b ms ≡ suc j) where
  one : (k m : Edge) (p q : ℕ) → number k ms ≡ suc p → number m ms ≡ suc q
      → ◌≡◌ {A = ℕ} (cond (eqb p i && eqb q j) 1 0) (cond (same k a && same m b) 1 0)
  one k m p q h e =
      ap (λ (t : Bool). cond (t && eqb q j) 1 0) (number_same ms k a p i h ea)
      ∙ ap (λ (t : Bool). cond (same k a && t) 1 0) (number_same ms m b q j e eb)

  names-count : {vs : List Visit} {l : List ℕ} → Names ms vs l → count eqb i j (sides l) ≡ count same a b (sides (map edge_of vs))
  unfolding count sides
  names-count none = refl
  names-count (more h none) = refl
  names-count (more h (more e none)) = refl
  names-count (more {v = k} {i = p} h (more {v = m} {i = q} e (more {v = o} {i = s} f r))) =
      let w = names-count r in
      let u = one (edge_of k) (edge_of m) p q h e in
      let v = one (edge_of m) (edge_of o) q s e f in
      let x = one (edge_of o) (edge_of k) s p f h in
      omega arith

-- the edge of vertex i has the number i
number-of-vertex : (made : List Visit) → distinct (map edge_of made) ≡ true → (i : ℕ) → i < length made
    → number (edge_of_vertex made i) (map edge_of made) ≡ suc i
unfolding edge_of_vertex
number-of-vertex made once i h =
    let n = length-map made edge_of in
    ap (λ (k : Edge). number k (map edge_of made)) (sym (get_or-map edge_of made i (visit_at 0 0 0 0)))
    ∙ at-number (map edge_of made) i (edge_of (visit_at 0 0 0 0)) once (omega arith)

-- as many sides run from vertex i to vertex j as from the edge of one to the edge of the other
pub indices-sides : (g : Inside) (n layers i j : ℕ) → i < length (mesh joined [] g n layers).made → j < length (mesh joined [] g n layers).made
    → count eqb i j (sides (mesh joined [] g n layers).indices)
    ≡ count same (edge_of_vertex (mesh joined [] g n layers).made i) (edge_of_vertex (mesh joined [] g n layers).made j) (sides (map edge_of (visits g n layers)))
indices-sides g n layers i j hi hj =
    let s = mesh joined [] g n layers in
    let met = met-end g n layers in
    let once : distinct (map edge_of s.made) ≡ true = rw met.edges met.once in
    let number_of : (k : ℕ) → k < length s.made → number (edge_of_vertex s.made k) s.memory ≡ suc k =
    λ k h. ap (number (edge_of_vertex s.made k)) (sym met.edges) ∙ number-of-vertex s.made once k h in
    names-count s.memory (edge_of_vertex s.made i) (edge_of_vertex s.made j) i j (number_of i hi) (number_of j hj) (named g n layers).names
