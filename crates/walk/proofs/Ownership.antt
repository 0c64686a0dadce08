-- The joined numbering along the walk: before each visit, the edges met are the crossing edges whose home is an earlier cell, and those that this
-- cell has named. So whether a visit makes a vertex follows from the cell's place.
use mathlib.Core.Path.{◌≡◌, refl, sym, ap, ◌∙◌, subst}
use mathlib.Core.Logic.{⊎_elim}
use mathlib.Core.Bool.{Bool, true, false, ◌&&◌, ◌||◌, not, and-true, and-false, or-false, or-true, false≢true}
use mathlib.Core.List.{List, [], ◌∷◌, ◌++◌, map, map-append}
use Prim.Native.Nat.{ℕ, zero, suc, ◌-◌, ◌<◌, ◌≤◌}
use native.Mathlib.Nat.{not-suc-le-zero}
use native.Mathlib.Decide.{dec_lt}
use native.Mathlib.Omega.{arith}
use lib.Dec.{eqb, ltb}
use lib.ListN.{length, get_or}
use borrow.Author.Tests.{eqb-true, eqb-false, eq-eqb, ne_eqb, lt-ltb, le-ltb}
use Rattle.walk.specs.Walk.{Visit, Inside, visit_of, cell_edges, times}
use Rattle.walk.specs.Edges.{Edge, edge_of, crosses, same, has, distinct}
use Rattle.walk.specs.Numbering.{Mesh, empty, choose, hooks, mesh, joined, number}
use Rattle.walk.proofs.Bools.{bool_cases, or_split}
use Rattle.walk.proofs.GridEdges.{visit_at, same_true, same_of, InBox, edge_of-in_box}
use Rattle.walk.proofs.CellEdges.{cell_edges-lt, visit-crosses, crossing-visited}
use Rattle.walk.proofs.WalkInduction.{Steps, Alone, walk-holds}
use Rattle.walk.proofs.FirstUse.{has-snoc, distinct_snoc, number-zero, number-pos}
use Rattle.walk.proofs.Rank.{rank, rank-injective, rank-suc, rank-row-end, rank-layer-end, rank-start, rank-lt-end}
use Rattle.walk.proofs.Home.{home_x, home_y, home_z, home, home-le, box-home}

-- ---- what has been met

-- the edge k is named by one of the first j visits of the cell
unfoldable pub named : Inside → ℕ → ℕ → ℕ → ℕ → Edge → Bool
named g x y z j k = times j (λ i b. b || same k (edge_of (visit_of g x y z i))) false

-- over layers of m by m cells
unfoldable pub met : Inside → ℕ → ℕ → ℕ → ℕ → ℕ → Edge → Bool
met g m x y z j k = crosses g k && (ltb (home m k) (rank m x y z) || (eqb (home m k) (rank m x y z) && named g x y z j k))

pub record Met (g : Inside) (n layers z y x j : ℕ) (s : Mesh (List Edge)) : Type 0 where
  pub edges : map edge_of s.made ≡ s.memory
  pub once : distinct s.memory ≡ true
  pub boxed : (k : Edge) → has k s.memory ≡ true → InBox n layers k
  pub known : (k : Edge) → InBox n layers k → has k s.memory ≡ met g (n - 1) x y z j k

-- ---- comparisons as tests

pub lt-or-eq : (a b : ℕ) → a ≤ b → (ltb a b || eqb a b) ≡ true
lt-or-eq a b h =
    elim (dec_lt a b) [
      | yes l ↦ ap (λ (t : Bool). t || eqb a b) (lt-ltb a b l)
      | no l ↦ ap (λ (t : Bool). ltb a b || t) (eq-eqb a b (omega arith)) ∙ or-true (ltb a b)
    ]

pub lt-not-eq : (a b : ℕ) → a ≤ b → ltb a b ≡ not (eqb a b)
lt-not-eq a b h =
    ⊎_elim
    (λ (t : eqb a b ≡ true). let e : a ≡ b = eqb-true a b t in le-ltb a b (omega arith) ∙ sym (ap not t))
    (λ (f : eqb a b ≡ false). lt-ltb a b (let u = eqb-false a b f in omega arith) ∙ sym (ap not f))
    (bool_cases (eqb a b))

lt-suc : (a b : ℕ) → ltb a (suc b) ≡ (ltb a b || eqb a b)
lt-suc a b =
    elim (dec_lt b a) [
      | yes l ↦ le-ltb a (suc b) l ∙ sym (ap (λ (t : Bool). t || eqb a b) (le-ltb a b (omega arith)) ∙ ne_eqb a b (λ e. omega arith))
      | no l ↦ lt-ltb a (suc b) (omega arith) ∙ sym (lt-or-eq a b (omega arith))
    ]

-- ---- a visit

choose-has : (v : Visit) (s : Mesh (List Edge)) (k : Edge) (q : ℕ) → number (edge_of v) s.memory ≡ q
    → has k (choose joined q v s).memory ≡ (has k s.memory || same k (edge_of v))
unfolding choose joined
choose-has v s k zero h = has-snoc k (edge_of v) s.memory
choose-has v s k (suc q) h =
    ⊎_elim
    (λ (t : same k (edge_of v) ≡ true).
    let f : has k s.memory ≡ true = ap (λ (m : Edge). has m s.memory) (same_true k (edge_of v) t) ∙ number-pos (edge_of v) s.memory (omega arith) in
    f ∙ ap (λ (b : Bool). b || same k (edge_of v)) (sym f))
    (λ (t : same k (edge_of v) ≡ false). sym (ap (λ (b : Bool). has k s.memory || b) t ∙ or-false (has k s.memory)))
    (bool_cases (same k (edge_of v)))

choose-edges : (v : Visit) (s : Mesh (List Edge)) (q : ℕ) → map edge_of s.made ≡ s.memory
    → map edge_of (choose joined q v s).made ≡ (choose joined q v s).memory
unfolding choose joined
choose-edges v s zero h = map-append edge_of s.made (v ∷ []) ∙ ap (λ (l : List Edge). l ++ (edge_of v ∷ [])) h
choose-edges v s (suc q) h = h

choose-once : (v : Visit) (s : Mesh (List Edge)) (q : ℕ) → number (edge_of v) s.memory ≡ q → distinct s.memory ≡ true
    → distinct (choose joined q v s).memory ≡ true
unfolding choose joined
choose-once v s zero h d = distinct_snoc (edge_of v) s.memory (number-zero (edge_of v) s.memory h) d
choose-once v s (suc q) h d = d

-- c: k crosses; a, e: its home is before this cell, is this cell; m: it is named so far; s: it is the edge of this visit
visit-known : (c a e m s : Bool) → (s ≡ true → c ≡ true) → (s ≡ true → (a || e) ≡ true)
    → ((c && (a || (e && m))) || s) ≡ (c && (a || (e && (m || s))))
visit-known c a e m false p q = simp or-false
visit-known true true e m true p q = refl
visit-known true false true m true p q = simp or-true
visit-known true false false m true p q = sym (q refl)
visit-known false a e m true p q = sym (p refl)

-- and at the cell's end, where the next cell has named nothing
cell-known : (c a e m w : Bool) → (c ≡ true → e ≡ true → m ≡ true) → (c && (a || (e && m))) ≡ (c && ((a || e) || (w && false)))
cell-known false a e m w p = refl
cell-known true true e m w p = refl
cell-known true false false m w p = sym (and-false w)
cell-known true false true m w p = p refl refl

times-or : (f : ℕ → Bool) (k i : ℕ) → i < k → f i ≡ true → times k (λ i b. b || f i) false ≡ true
unfolding times
times-or f zero i h t = absurd (not-suc-le-zero h)
times-or f (suc k) i h t =
    elim (dec_lt i k) [
      | yes a ↦ ap (λ (b : Bool). b || f k) (times-or f k i a t)
      | no a ↦
          let e : k ≡ i = omega arith in
          ap (λ (b : Bool). times k (λ i b. b || f i) false || b) (ap f e ∙ t) ∙ or-true (times k (λ i b. b || f i) false)
    ]

module _ (g : Inside) (n layers : ℕ) where
  -- the edge of a visit
  module _ (z y x j : ℕ) (lz : z < layers) (ly : y < n - 1) (lx : x < n - 1) (lj : j < length (cell_edges g x y z)) where
    pub visit-boxed : InBox n layers (edge_of (visit_of g x y z j))
    visit-boxed = edge_of-in_box x y z (get_or (cell_edges g x y z) j 0) (cell_edges-lt g x y z j lj) n layers lx ly lz

    visit-home : (ltb (home (n - 1) (edge_of (visit_of g x y z j))) (rank (n - 1) x y z) || eqb (home (n - 1) (edge_of (visit_of g x y z j))) (rank (n - 1) x y z)) ≡ true
    visit-home = lt-or-eq _ _ (home-le (n - 1) x y z (get_or (cell_edges g x y z) j 0) (cell_edges-lt g x y z j lj))

    visit-met : (s : Mesh (List Edge)) → Met g n layers z y x j s → Met g n layers z y x (suc j) ((hooks joined).visit (visit_of g x y z j) s)
    unfolding hooks joined met named times
    visit-met s i =
        let v : Visit = visit_of g x y z j in
        let q : ℕ = number (edge_of v) s.memory in
        let m : ℕ = n - 1 in
        record {
          edges = choose-edges v s q i.edges;
          once = choose-once v s q refl i.once;
          boxed = λ k h.
              ⊎_elim (λ a. i.boxed k a) (λ b. subst (InBox n layers) (sym (same_true k (edge_of v) b)) visit-boxed)
              (or_split (has k s.memory) (same k (edge_of v)) (sym (choose-has v s k q refl) ∙ h));
          known = λ k b.
              choose-has v s k q refl ∙ ap (λ (t : Bool). t || same k (edge_of v)) (i.known k b)
              ∙ visit-known (crosses g k) (ltb (home m k) (rank m x y z)) (eqb (home m k) (rank m x y z)) (named g x y z j k) (same k (edge_of v))
              (λ t. ap (crosses g) (same_true k (edge_of v) t) ∙ visit-crosses g x y z j lj)
              (λ t. ap (λ (o : Edge). ltb (home m o) (rank m x y z) || eqb (home m o) (rank m x y z)) (same_true k (edge_of v) t) ∙ visit-home);
        }

  named-at : (x y z j e : ℕ) (k : Edge) → j < length (cell_edges g x y z) → get_or (cell_edges g x y z) j 0 ≡ e → edge_of (visit_at x y z e) ≡ k
      → named g x y z (length (cell_edges g x y z)) k ≡ true
  unfolding named
  named-at x y z j e k l h w =
      times-or (λ i. same k (edge_of (visit_of g x y z i))) (length (cell_edges g x y z)) j l
      (same_of k (edge_of (visit_of g x y z j)) (sym (ap (λ (o : ℕ). edge_of (visit_at x y z o)) h ∙ w)))

  -- a crossing edge whose home is this cell is named by it
  home-named : (z y x : ℕ) → z < layers → y < n - 1 → x < n - 1 → (k : Edge) → InBox n layers k → crosses g k ≡ true
      → home (n - 1) k ≡ rank (n - 1) x y z
      → named g x y z (length (cell_edges g x y z)) k ≡ true
  unfolding home
  home-named z y x lz ly lx k b c h =
      let d = box-home n layers k (omega arith) (omega arith) b in
      let i = rank-injective (n - 1) x y z (home_x k) (home_y k) (home_z k) lx ly d.x_lt d.y-lt h in
      let w : edge_of (visit_at x y z d.edge) ≡ k =
      ap (λ (o : ℕ). edge_of (visit_at o y z d.edge)) (sym i.0)
      ∙ ap (λ (o : ℕ). edge_of (visit_at (home_x k) o z d.edge)) (sym i.1)
      ∙ ap (λ (o : ℕ). edge_of (visit_at (home_x k) (home_y k) o d.edge)) (sym i.2) ∙ d.is in
      let j = crossing-visited g x y z d.edge d.edge-lt (ap (crosses g) w ∙ c) in
      named-at x y z j.0 d.edge k j.1 j.2 w

  cell-met : (z y x : ℕ) → z < layers → y < n - 1 → x < n - 1 → (k : Edge) → InBox n layers k
      → met g (n - 1) x y z (length (cell_edges g x y z)) k ≡ met g (n - 1) (suc x) y z 0 k
  unfolding met named times
  cell-met z y x lz ly lx k b =
      let h : ℕ = home (n - 1) k in
      let r : ℕ = rank (n - 1) x y z in
      cell-known (crosses g k) (ltb h r) (eqb h r) (named g x y z (length (cell_edges g x y z)) k) (eqb h (suc r))
      (λ c e. home-named z y x lz ly lx k b c (eqb-true h r e))
      ∙ ap (λ (t : Bool). crosses g k && (t || (eqb h (suc r) && false))) (sym (lt-suc h r))
      ∙ ap (λ (o : ℕ). crosses g k && (ltb h o || (eqb h o && false))) (sym (rank-suc (n - 1) x y z))

  -- between cells only the rank matters
  at-rank : (x y z a b c : ℕ) → rank (n - 1) x y z ≡ rank (n - 1) a b c → (k : Edge) → met g (n - 1) x y z 0 k ≡ met g (n - 1) a b c 0 k
  unfolding met named times
  at-rank x y z a b c e k = ap (λ (o : ℕ). crosses g k && (ltb (home (n - 1) k) o || (eqb (home (n - 1) k) o && false))) e

  moved : (z y x j c b a i : ℕ) (s : Mesh (List Edge)) → ((k : Edge) → InBox n layers k → met g (n - 1) x y z j k ≡ met g (n - 1) a b c i k)
      → Met g n layers z y x j s → Met g n layers c b a i s
  moved z y x j c b a i s e p = record { edges = p.edges; once = p.once; boxed = p.boxed; known = λ k h. p.known k h ∙ e k h }

  pub met-steps : Steps g n layers (hooks joined) (hooks joined) (Alone (Met g n layers))
  unfolding hooks joined
  met-steps =
      record {
        visit = λ z y x j s t lz ly lx lj p. visit-met z y x j lz ly lx lj s p;
        cell_end = λ z y x s t lz ly lx p. moved z y x (length (cell_edges g x y z)) z y (suc x) 0 s (cell-met z y x lz ly lx) p;
        row_end = λ z y s t lz ly p. moved z y (n - 1) 0 z (suc y) 0 0 s (λ k h. at-rank (n - 1) y z 0 (suc y) z (rank-row-end (n - 1) y z) k) p;
        layer_end = λ z s t lz p. moved z (n - 1) 0 0 (suc z) 0 0 0 s (λ k h. at-rank 0 (n - 1) z 0 0 (suc z) (rank-layer-end (n - 1) z) k) p;
      }

  pub met_start : Met g n layers 0 0 0 0 (empty [])
  unfolding met named times has distinct
  met_start =
      record {
        edges = refl;
        once = refl;
        boxed = λ k h. absurd (false≢true h);
        known = λ k b.
            let r : ℕ = rank (n - 1) 0 0 0 in
            sym (ap (λ (t : Bool). crosses g k && (t || (eqb (home (n - 1) k) r && false))) (le-ltb (home (n - 1) k) r (let e = rank-start (n - 1) in omega arith)) ∙ simp and-false);
      }

  pub met-end : Met g n layers layers 0 0 0 (mesh joined [] g n layers)
  unfolding mesh
  met-end = walk-holds g n layers (hooks joined) (Met g n layers) met-steps (empty []) met_start

  -- after the walk every crossing edge of the box is met
  pub met_all : 2 ≤ n → 1 ≤ layers → (k : Edge) → InBox n layers k → met g (n - 1) 0 0 layers 0 k ≡ crosses g k
  unfolding met named times home
  met_all p q k b =
      let d = box-home n layers k p q b in
      let r : ℕ = rank (n - 1) 0 0 layers in
      ap (λ (t : Bool). crosses g k && (t || (eqb (home (n - 1) k) r && false)))
      (lt-ltb (home (n - 1) k) r (rank-lt-end (n - 1) layers (home_x k) (home_y k) (home_z k) d.x_lt d.y-lt d.z-lt))
      ∙ and-true (crosses g k)
