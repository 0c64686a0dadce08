-- Which visits make a vertex in the joined numbering: an edge of a cell is absent exactly if the cell owns it and has not named it yet.
use mathlib.Core.Path.{◌≡◌, refl, sym, ap, ◌∙◌}
use mathlib.Core.Bool.{Bool, true, false, ◌&&◌, ◌||◌, not, or-false, or_assoc}
use mathlib.Core.List.{List, [], ◌∷◌, ◌++◌}
use Prim.Native.Nat.{ℕ, zero, suc, ◌-◌, ◌<◌, ◌≤◌}
use native.Mathlib.Omega.{arith}
use lib.Dec.{eqb, ltb}
use lib.ListN.{length, get_or, take}
use lib.Seq.{take-suc}
use Rattle.marching_cubes_tables.specs.Rule.{member}
use Rattle.walk.specs.Walk.{Inside, visit_of, cell_edges, times}
use Rattle.walk.specs.Edges.{Edge, edge_of, crosses, same, has}
use Rattle.walk.specs.Numbering.{Mesh, empty, hooks, joined}
use Rattle.walk.proofs.GridEdges.{visit_at, edge_of-in_box, edge_of-same}
use Rattle.walk.proofs.CellEdges.{cell_edges-lt, visit-crosses}
use Rattle.walk.proofs.WalkInduction.{before, visit-holds}
use Rattle.walk.proofs.FirstUse.{number-absent}
use Rattle.walk.proofs.Rank.{rank}
use Rattle.walk.proofs.Home.{home, home-le, owns, home-owned}
use Rattle.walk.proofs.Ownership.{Met, met, named, lt-not-eq, met-steps, met_start}

member-snoc : (e a : ℕ) (r : List ℕ) → member e (r ++ (a ∷ [])) ≡ (member e r || eqb e a)
member-snoc e a [] = or-false (eqb e a)
member-snoc e a (b ∷ r) = ap (λ (t : Bool). eqb e b || t) (member-snoc e a r) ∙ sym (or_assoc (eqb e b) (member e r) (eqb e a))

-- an edge of the cell is named by the first j visits if it stands among the first j of its row
pub named-member : (g : Inside) (x y z e : ℕ) → e < 12 → (j : ℕ) → j ≤ length (cell_edges g x y z)
    → named g x y z j (edge_of (visit_at x y z e)) ≡ member e (take j (cell_edges g x y z))
unfolding named times
named-member g x y z e h zero l = refl
named-member g x y z e h (suc j) l =
    let r : List ℕ = cell_edges g x y z in
    ap (λ (b : Bool). b || same (edge_of (visit_at x y z e)) (edge_of (visit_of g x y z j))) (named-member g x y z e h j (omega arith))
    ∙ ap (λ (b : Bool). member e (take j r) || b) (edge_of-same x y z e (get_or r j 0) h (cell_edges-lt g x y z j l))
    ∙ sym (member-snoc e (get_or r j 0) (take j r)) ∙ ap (member e) (sym (take-suc r j 0 l))

-- a: the home is before this cell; e: it is this cell; m: the edge is named so far
new-bool : (a e m : Bool) → a ≡ not e → not (a || (e && m)) ≡ (e && not m)
new-bool a true m h = ap (λ (b : Bool). not (b || m)) h
new-bool a false m h = ap (λ (b : Bool). not (b || false)) h

-- an edge of the cell that crosses is absent exactly if the cell owns it and has not named it yet
pub absent-owned : (g : Inside) (n layers z y x j : ℕ) → z < layers → y < n - 1 → x < n - 1 → j ≤ length (cell_edges g x y z)
    → (s : Mesh (List Edge)) → Met g n layers z y x j s → (e : ℕ) → e < 12 → crosses g (edge_of (visit_at x y z e)) ≡ true
    → not (has (edge_of (visit_at x y z e)) s.memory) ≡ (owns x y z e && not (member e (take j (cell_edges g x y z))))
unfolding met
absent-owned g n layers z y x j lz ly lx lj s i e h c =
    let k : Edge = edge_of (visit_at x y z e) in
    let m : ℕ = n - 1 in
    let a : Bool = ltb (home m k) (rank m x y z) in
    let b : Bool = eqb (home m k) (rank m x y z) in
    ap not (i.known k (edge_of-in_box x y z e h n layers lx ly lz) ∙ ap (λ (t : Bool). t && (a || (b && named g x y z j k))) c)
    ∙ new-bool a b (named g x y z j k) (lt-not-eq (home m k) (rank m x y z) (home-le m x y z e h))
    ∙ ap (λ (t : Bool). t && not (named g x y z j k)) (home-owned m x y z e lx ly h)
    ∙ ap (λ (t : Bool). owns x y z e && not t) (named-member g x y z e h j lj)

pub look-owned : (g : Inside) (n z y x j : ℕ) → y < n - 1 → x < n - 1 → j < length (cell_edges g x y z)
    → eqb (joined.look (visit_of g x y z j) (before (hooks joined) g n z y x j (empty [])).memory) 0
    ≡ (owns x y z (get_or (cell_edges g x y z) j 0) && not (member (get_or (cell_edges g x y z) j 0) (take j (cell_edges g x y z))))
unfolding joined
look-owned g n z y x j ly lx lj =
    let s : Mesh (List Edge) = before (hooks joined) g n z y x j (empty []) in
    let i : Met g n (suc z) z y x j s =
    visit-holds g n (suc z) (hooks joined) (Met g n (suc z)) (met-steps g n (suc z)) z y x j (omega arith) ly lx (omega arith) (empty []) (met_start g n (suc z)) in
    number-absent (edge_of (visit_of g x y z j)) s.memory
    ∙ absent-owned g n (suc z) z y x j (omega arith) ly lx (omega arith) s i (get_or (cell_edges g x y z) j 0) (cell_edges-lt g x y z j lj) (visit-crosses g x y z j lj)
