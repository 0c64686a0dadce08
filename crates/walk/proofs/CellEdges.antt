-- What a cell visits: the row rule of the tables, said of the cell's samples. Callers cite these laws and leave the tables shut.
use mathlib.Core.Path.{◌≡◌, refl, sym, ap, ◌∙◌}
use mathlib.Core.Logic.{⊎_elim}
use mathlib.Core.Bool.{Bool, true, false, not, ◌&&◌, ◌||◌, beq, or-true, false≢true}
use mathlib.Core.List.{List, [], ◌∷◌}
use Prim.Native.Nat.{ℕ, zero, suc, ◌%◌, ◌<◌, ◌≤◌}
use native.Mathlib.Nat.{le_of_suc-le-suc, not-suc-le-zero}
use native.Mathlib.Omega.{arith}
use lib.Dec.{eqb}
use lib.ListN.{length, get_or}
use borrow.Author.Tests.{eqb-true, eq-eqb, lt-ltb}
use Rattle.marching_cubes_tables.specs.Tables.{edge_end, triangle_connection}
use Rattle.marching_cubes_tables.specs.Rule.{row_edges, bit_at, member, RowRule}
use Rattle.marching_cubes_tables.proofs.Rule.{row-rule}
use Rattle.walk.specs.Walk.{Inside, bit, corner_inside, signs, cell_edges}
use Rattle.walk.specs.Edges.{edge_of, crosses}
use Rattle.walk.proofs.Bools.{or_split}
use Rattle.walk.proofs.SignByte.{signs-lt, signs-corner}
use Rattle.walk.proofs.TwelveEdges.{cell_edge}
use Rattle.walk.proofs.GridEdges.{visit_at, edge_of-crosses}

-- ---- membership and place

member-at : (r : List ℕ) (j : ℕ) → j < length r → member (get_or r j 0) r ≡ true
member-at [] j h = absurd (not-suc-le-zero h)
member-at (a ∷ r) zero h = ap (λ (t : Bool). t || member a r) (eq-eqb a a refl)
member-at (a ∷ r) (suc j) h = ap (λ (t : Bool). eqb (get_or r j 0) a || t) (member-at r j (le_of_suc-le-suc h)) ∙ or-true (eqb (get_or r j 0) a)

member-place : (e : ℕ) (r : List ℕ) → member e r ≡ true → (j : ℕ) × (j < length r) × (get_or r j 0 ≡ e)
member-place e [] h = absurd (false≢true h)
member-place e (a ∷ r) h =
    ⊎_elim
    (λ t. (0, omega arith, sym (eqb-true e a t)))
    (λ t. let f = member-place e r t in (suc f.0, let b = f.1 in omega arith, f.2))
    (or_split (eqb e a) (member e r) h)

bit-eqb : (a b : Bool) → eqb (bit a) (bit b) ≡ beq a b
bit-eqb true true = refl
bit-eqb true false = refl
bit-eqb false true = refl
bit-eqb false false = refl

module _ (g : Inside) (x y z : ℕ) where
  rule : RowRule (signs g x y z)
  rule = row-rule (signs g x y z) (signs-lt g x y z)

  pub cell_edges-lt : (j : ℕ) → j < length (cell_edges g x y z) → get_or (cell_edges g x y z) j 0 < 12
  unfolding cell_edges
  cell_edges-lt = rule.edge

  pub cell_edges-most : length (cell_edges g x y z) ≤ 15
  unfolding cell_edges
  cell_edges-most = rule.most

  pub cell_edges-threes : length (cell_edges g x y z) % 3 ≡ 0
  unfolding cell_edges
  cell_edges-threes = rule.threes

  -- a cell whose corners are alike visits nothing
  pub cell_edges-outside : signs g x y z ≡ 0 → cell_edges g x y z ≡ []
  unfolding cell_edges row_edges triangle_connection
  cell_edges-outside h = ap row_edges h

  pub cell_edges-inside : signs g x y z ≡ 255 → cell_edges g x y z ≡ []
  unfolding cell_edges row_edges triangle_connection
  cell_edges-inside h = ap row_edges h

  -- a cell visits exactly those of its edges whose ends differ in sign
  pub cell_edges-crossed : (e : ℕ) → e < 12 → member e (cell_edges g x y z) ≡ crosses g (edge_of (visit_at x y z e))
  unfolding cell_edges
  cell_edges-crossed e h =
      let c = cell_edge e h in
      let a : Bool = corner_inside g x y z (edge_end e 0) in
      let b : Bool = corner_inside g x y z (edge_end e 1) in
      rule.crossed e
      ∙ ap (λ (t : Bool). t && not (eqb (bit_at (signs g x y z) (edge_end e 0)) (bit_at (signs g x y z) (edge_end e 1)))) (lt-ltb e 12 h)
      ∙ rw (signs-corner g x y z (edge_end e 0) c.first-corner, signs-corner g x y z (edge_end e 1) c.second-corner) (ap not (bit-eqb a b))
      ∙ sym (edge_of-crosses x y z e h g)

  -- the edge of each visit crosses
  pub visit-crosses : (j : ℕ) → j < length (cell_edges g x y z) → crosses g (edge_of (visit_at x y z (get_or (cell_edges g x y z) j 0))) ≡ true
  visit-crosses j h = sym (cell_edges-crossed (get_or (cell_edges g x y z) j 0) (cell_edges-lt j h)) ∙ member-at (cell_edges g x y z) j h

  -- and each of its edges that crosses is visited
  pub crossing-visited : (e : ℕ) → e < 12 → crosses g (edge_of (visit_at x y z e)) ≡ true
      → (j : ℕ) × (j < length (cell_edges g x y z)) × (get_or (cell_edges g x y z) j 0 ≡ e)
  crossing-visited e h c = member-place e (cell_edges g x y z) (cell_edges-crossed e h ∙ c)
