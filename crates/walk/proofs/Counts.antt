-- What holds of either numbering whatever it remembers: each visit writes one index and makes at most one vertex, a cell makes at most fifteen
-- visits in threes, and each visit is to an edge whose ends differ in sign.
use mathlib.Core.Path.{◌≡◌, refl, ap, ◌∙◌}
use mathlib.Core.Bool.{true}
use mathlib.Core.List.{List, [], ◌∷◌, ◌++◌}
use Prim.Native.Nat.{ℕ, zero, suc, ◌+◌, ◌-◌, ◌*◌, ◌/◌, ◌%◌, ◌<◌, ◌≤◌}
use native.Mathlib.Nat.{not-suc-le-zero, mul-le-mul_right}
use native.Mathlib.Omega.{arith}
use lib.ListN.{length}
use Rattle.walk.specs.Walk.{Visit, Inside, visit_of, cell_edges, listing, visits}
use Rattle.walk.specs.Edges.{edge_of, crosses}
use Rattle.walk.specs.Numbering.{Numbering, Mesh, empty, choose, hooks, mesh}
use Rattle.walk.proofs.Each.{Each, length-snoc, each_snoc}
use Rattle.walk.proofs.GridEdges.{visit_at}
use Rattle.walk.proofs.CellEdges.{cell_edges-lt, cell_edges-most, cell_edges-threes, visit-crosses}
use Rattle.walk.proofs.WalkInduction.{Steps, Alone, walk_kept, walk-holds}
use Rattle.walk.proofs.Rank.{rank, rank-suc, rank-row-end, rank-layer-end, rank-layers}

-- one of the twelve edges of a cell of the walk, and its ends differ in sign
pub record Visited (g : Inside) (n layers : ℕ) (v : Visit) : Type 0 where
  pub x_lt : v.x < n - 1
  pub y-lt : v.y < n - 1
  pub z-lt : v.z < layers
  pub edge-lt : v.edge < 12
  pub crosses : crosses g (edge_of v) ≡ true

-- stands past the end of a list of visits
abbrev pub no_visit : Visit
no_visit = visit_at 0 0 0 0

visit-visited : (g : Inside) (n layers z y x j : ℕ) → z < layers → y < n - 1 → x < n - 1 → j < length (cell_edges g x y z)
    → Visited g n layers (visit_of g x y z j)
visit-visited g n layers z y x j lz ly lx lj =
    record { x_lt = lx; y-lt = ly; z-lt = lz; edge-lt = cell_edges-lt g x y z j lj; crosses = visit-crosses g x y z j lj }

-- ---- the list of visits

record Listed (n z y x j : ℕ) (vs : List Visit) : Type 0 where
  thirds : ℕ
  threes : length vs ≡ 3 * thirds + j
  most : length vs ≤ 15 * rank (n - 1) x y z + j

module _ (g : Inside) (n layers : ℕ) where
  listed-steps : Steps g n layers listing listing (Alone (Listed n))
  unfolding listing
  listed-steps =
      record {
        visit = λ z y x j s t lz ly lx lj p.
            let a = p.threes in
            let b = p.most in
            let l = length-snoc s (visit_of g x y z j) in
            record { thirds = p.thirds; threes = omega arith; most = omega arith };
        cell_end = λ z y x s t lz ly lx p.
            let a = p.threes in
            let b = p.most in
            let c = cell_edges-most g x y z in
            let d = cell_edges-threes g x y z in
            let r = rank-suc (n - 1) x y z in
            record { thirds = p.thirds + length (cell_edges g x y z) / 3; threes = omega arith; most = omega arith };
        row_end = λ z y s t lz ly p. let b = p.most in let r = rank-row-end (n - 1) y z in record { thirds = p.thirds; threes = p.threes; most = omega arith };
        layer_end = λ z s t lz p. let b = p.most in let r = rank-layer-end (n - 1) z in record { thirds = p.thirds; threes = p.threes; most = omega arith };
      }

  listed-end : Listed n layers 0 0 0 (visits g n layers)
  unfolding visits
  listed-end = walk-holds g n layers listing (Listed n) listed-steps [] (record { thirds = 0; threes = refl; most = omega arith })

  pub visits-threes : length (visits g n layers) % 3 ≡ 0
  visits-threes = let a = listed-end.threes in omega arith

  pub visits-most : length (visits g n layers) ≤ 15 * (layers * (n - 1) * (n - 1))
  visits-most = let a = listed-end.most in let b = rank-layers (n - 1) layers in omega arith

-- ---- either numbering

record Tally {C : Type 0} (g : Inside) (n layers : ℕ) (s : Mesh C) (vs : List Visit) : Type 0 where
  one_each : length s.indices ≡ length vs
  fewer : length s.made ≤ length s.indices
  real : Each (Visited g n layers) no_visit s.made

choose-tally : {C : Type 0} (m : Numbering C) (g : Inside) (n layers : ℕ) (q : ℕ) (v : Visit) → Visited g n layers v
    → (s : Mesh C) (vs : List Visit)
    → Tally g n layers s vs → Tally g n layers (choose m q v s) (vs ++ (v ∷ []))
unfolding choose
choose-tally m g n layers zero v r s vs p =
    let a = length-snoc s.indices (length s.made) in
    let b = length-snoc s.made v in
    let c = length-snoc vs v in
    let d = p.one_each in
    let e = p.fewer in
    record { one_each = omega arith; fewer = omega arith; real = each_snoc (Visited g n layers) no_visit s.made v p.real r }
choose-tally m g n layers (suc i) v r s vs p =
    let a = length-snoc s.indices i in
    let c = length-snoc vs v in
    let d = p.one_each in
    let e = p.fewer in
    record { one_each = omega arith; fewer = omega arith; real = p.real }

module _ {C : Type 0} (m : Numbering C) (c : C) (g : Inside) (n layers : ℕ) where
  tally-steps : Steps g n layers (hooks m) listing (λ z y x j. Tally g n layers)
  unfolding hooks listing
  tally-steps =
      record {
        visit = λ z y x j s t lz ly lx lj p. choose-tally m g n layers (m.look (visit_of g x y z j) s.memory) (visit_of g x y z j) (visit-visited g n layers z y x j lz ly lx lj) s t p;
        cell_end = λ z y x s t lz ly lx p. record { one_each = p.one_each; fewer = p.fewer; real = p.real };
        row_end = λ z y s t lz ly p. record { one_each = p.one_each; fewer = p.fewer; real = p.real };
        layer_end = λ z s t lz p. record { one_each = p.one_each; fewer = p.fewer; real = p.real };
      }

  tally-end : Tally g n layers (mesh m c g n layers) (visits g n layers)
  unfolding mesh visits
  tally-end =
      walk_kept g n layers (hooks m) listing (λ z y x j. Tally g n layers) tally-steps (empty c) []
      (record { one_each = refl; fewer = omega arith; real = λ i h. absurd (not-suc-le-zero h) })

  pub indices-count : length (mesh m c g n layers).indices ≡ length (visits g n layers)
  indices-count = tally-end.one_each

  pub indices-threes : length (mesh m c g n layers).indices % 3 ≡ 0
  indices-threes = ap (λ (i : ℕ). i % 3) indices-count ∙ visits-threes g n layers

  pub made-le-indices : length (mesh m c g n layers).made ≤ length (mesh m c g n layers).indices
  made-le-indices = tally-end.fewer

  pub indices-most : length (mesh m c g n layers).indices ≤ 15 * (layers * (n - 1) * (n - 1))
  indices-most = let a = indices-count in let b = visits-most g n layers in omega arith

  pub made-visited : Each (Visited g n layers) no_visit (mesh m c g n layers).made
  made-visited = tally-end.real

  -- 15 * 511 * 511 * 512, under 2 ^ 32
  pub indices-fit : n ≤ 512 → layers ≤ 512 → length (mesh m c g n layers).indices ≤ 2005409280
  indices-fit hn hl =
      let a : layers * (n - 1) ≤ 512 * (n - 1) = mul-le-mul_right (n - 1) hl in
      let b : layers * (n - 1) ≤ 261632 = omega arith in
      let d : layers * (n - 1) * (n - 1) ≤ 261632 * (n - 1) = mul-le-mul_right (n - 1) b in
      let e : layers * (n - 1) * (n - 1) ≤ 133693952 = omega arith in
      let f = indices-most in
      omega arith
