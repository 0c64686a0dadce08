-- What 32 cells come to by their corners' words is what they come to one after another.
use mathlib.Core.Path.{◌≡◌, sym, ◌∙◌, ap, ap₂}
use mathlib.Core.Bool.{Bool, true, false, cond}
use mathlib.Core.List.{List}
use Prim.Native.Nat.{ℕ, zero, suc, ◌+◌, ◌-◌, ◌*◌, ◌/◌, ◌≤◌, ◌<◌}
use native.Mathlib.Nat.{add-zero, add-suc, add_assoc}
use native.Mathlib.Omega.{arith}
use lib.Dec.{eqb, ltb}
use lib.ListN.{length}
use borrow.Author.Tests.{lt-ltb, le-ltb, ne_eqb}
use Rattle.walk.specs.Walk.{Inside, cell_edges, times}
use Rattle.walk.specs.Ownership.{owned, new_edges}
use Rattle.walk.proofs.EightSigns.{cell_edges-byte}
use Rattle.walk.proofs.CellEdges.{cell_edges-threes}
use Rattle.walk.proofs.NewEdges.{new_edges-length-le}
use Rattle.walk_models.specs.Owned.{Count, cell_new, count_cell}
use Rattle.sign_cells.specs.Cells.{cells_in}
use Rattle.cell_tally.specs.declared.Corners.{Corners}
use Rattle.corner_signs.specs.Signs.{row_of}
use Rattle.cell_tally.specs.Tally.{corner, total, is_set, in_mask, of_signs, triangles_in, new_in}
use Rattle.cell_tally.proofs.Sums.{total-same, total_mono, in_mask-times}
use Rattle.corner_signs.proofs.Identities.{row-threes}
use Rattle.layer_tally.specs.Layer.{SignsOf}

-- a sum of which only the first m terms count
total-cut : (f h : ℕ → ℕ) (b : ℕ → Bool) (m d : ℕ) → ((j : ℕ) → j < m → b j ≡ true) → ((j : ℕ) → m ≤ j → j < m + d → b j ≡ false)
    → ((j : ℕ) → j < m → f j ≡ h j) → total (λ j. cond (b j) (f j) 0) (m + d) ≡ total h m
unfolding total
total-cut f h b m zero set unset same =
    ap (total (λ j. cond (b j) (f j) 0)) (add-zero m)
    ∙ total-same _ _ m (λ j l. ap (λ (t : Bool). cond t (f j) 0) (set j l) ∙ same j l)
total-cut f h b m (suc d) set unset same =
    ap (total (λ j. cond (b j) (f j) 0)) (add-suc m d)
    ∙ ap₂ ◌+◌ (total-cut f h b m d set (λ j a l. unset j a (omega arith)) same) (ap (λ (t : Bool). cond t (f (m + d)) 0) (unset (m + d) (omega arith) (omega arith)))
    ∙ add-zero (total h m)

-- no more edges are new than a row names
pub new-most : (c : Corners) (mask first top : ℕ) → new_in c mask first top ≤ 3 * triangles_in c mask
new-most c mask first top =
    let thrice = in_mask-times mask 3 (λ i. length (of_signs row_of c i) / 3) in
    omega (arith, thrice, total_mono _ _ 32 (λ i l. each (is_set mask i) i))
  where
    each : (b : Bool) (i : ℕ)
        → cond b (length (new_edges (owned (is_set first i) (is_set top i) false) (of_signs row_of c i))) 0 ≤ cond b (3 * (length (of_signs row_of c i) / 3)) 0
    each true i =
        omega (
          arith,
          new_edges-length-le (owned (is_set first i) (is_set top i) false) (of_signs row_of c i),
          row-threes (is_set (corner c 0) i) (is_set (corner c 1) i) (is_set (corner c 2) i) (is_set (corner c 3) i) (is_set (corner c 4) i) (is_set (corner c 5) i) (is_set (corner c 6) i) (is_set (corner c 7) i),
        )
    each false i = omega arith

module _ (g : Inside) (n y z k : ℕ) (c : Corners) (mask : ℕ)
    (signs : (j : ℕ) → j < 32 → 32 * k + j + 1 < n → SignsOf g (32 * k + j) y z c j)
    (masked : (j : ℕ) → j < 32 → is_set mask j ≡ ltb (32 * k + j + 1) n) where
  row_is : (j : ℕ) → SignsOf g (32 * k + j) y z c j → of_signs row_of c j ≡ cell_edges g (32 * k + j) y z
  row_is j s = rw (s.s0, s.s1, s.s2, s.s3, s.s4, s.s5, s.s6, s.s7) (sym (cell_edges-byte g (32 * k + j) y z))

  -- over the cells of the word
  cut_at : (f h : ℕ → ℕ) → ((j : ℕ) → j < 32 → 32 * k + j + 1 < n → f j ≡ h j) → in_mask mask f ≡ total h (cells_in n k)
  cut_at f h same =
      let all : cells_in n k + (32 - cells_in n k) ≡ 32 = omega arith in
      ap (total (λ j. cond (is_set mask j) (f j) 0)) (sym all)
      ∙ total-cut f h (is_set mask) (cells_in n k) (32 - cells_in n k)
      (λ j l. masked j (omega arith) ∙ lt-ltb (32 * k + j + 1) n (omega arith))
      (λ j a l. masked j (omega arith) ∙ le-ltb (32 * k + j + 1) n (omega arith))
      (λ j l. same j (omega arith) (omega arith))

  pub triangles-word : 3 * triangles_in c mask ≡ total (λ j. length (cell_edges g (32 * k + j) y z)) (cells_in n k)
  triangles-word =
      in_mask-times mask 3 (λ i. length (of_signs row_of c i) / 3)
      ∙ cut_at _ _
      (λ j l h.
      ap (λ (r : List ℕ). 3 * (length r / 3)) (row_is j (signs j l h))
      ∙ (let threes = cell_edges-threes g (32 * k + j) y z in omega (arith, threes)))

  pub new_word : (first top : ℕ) → 0 < z → ((j : ℕ) → j < 32 → is_set first j ≡ eqb (32 * k + j) 0) → ((j : ℕ) → j < 32 → is_set top j ≡ eqb y 0)
      → new_in c mask first top ≡ total (λ j. length (cell_new g (32 * k + j) y z)) (cells_in n k)
  unfolding cell_new
  new_word first top above firsts tops =
      cut_at _ _
      (λ j l h.
      ap (λ (r : List ℕ). length (new_edges (owned (is_set first j) (is_set top j) false) r)) (row_is j (signs j l h))
      ∙ ap₂ (λ (p q : Bool). length (new_edges (owned p q false) (cell_edges g (32 * k + j) y z))) (firsts j l) (tops j l)
      ∙ ap (λ (b : Bool). length (new_edges (owned (eqb (32 * k + j) 0) (eqb y 0) b) (cell_edges g (32 * k + j) y z))) (sym (ne_eqb z 0 (λ e. omega arith))))

-- cell after cell
pub cells-counted : (g : Inside) (z y from m : ℕ) (t : Count)
    → times m (λ j c. count_cell g z y (from + j) c) t
    ≡ record {
      made = t.made + total (λ j. length (cell_new g (from + j) y z)) m;
      written = t.written + total (λ j. length (cell_edges g (from + j) y z)) m;
    }
unfolding times total
cells-counted g z y from zero t = ap₂ (λ (a b : ℕ). record { made = a; written = b }) (sym (add-zero t.made)) (sym (add-zero t.written))
cells-counted g z y from (suc m) t =
    ap (count_cell g z y (from + m)) (cells-counted g z y from m t)
    ∙ ap₂ (λ (a b : ℕ). record { made = a; written = b }) (add_assoc _ _ _) (add_assoc _ _ _)
