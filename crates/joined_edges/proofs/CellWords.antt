-- What the two words of a cell hold: the edges of its row and its new edges, each with their number; the second has both numbers.
use mathlib.Core.Path.{◌≡◌, refl, sym, ap, ap₂, ◌∙◌, subst}
use mathlib.Core.Bool.{Bool, true, false}
use mathlib.Core.List.{List}
use Prim.Native.Nat.{ℕ, ◌+◌, ◌*◌, ◌/◌, ◌%◌, ◌^◌, ◌<◌, ◌≤◌}
use native.Mathlib.Omega.{arith}
use lib.Dec.{eqb}
use lib.ListN.{length, get_or}
use Rattle.marching_cubes_tables.specs.Rule.{row_edges}
use Rattle.marching_cubes_tables.proofs.Rule.{row-rule}
use Rattle.walk.specs.Walk.{Visit, Inside, bit, signs, cell_edges}
use Rattle.walk.specs.Ownership.{owned, new_edges}
use Rattle.walk.proofs.SignByte.{signs-lt}
use Rattle.walk.proofs.NewEdges.{new_edges-length-le}
use Rattle.walk_models.specs.Lent.{Lent}
use Rattle.walk_models.specs.Owned.{cell_new, make_edge, name_edge, owned_cell, Count, count_cell}
use Rattle.packed_tables.specs.Unpacked.{Edges}
use Rattle.packed_tables.specs.Packed.{owned_in, row_words, new_words}
use Rattle.packed_tables.proofs.PackedEdges.{edges-of-each, unpacked-length}
use Rattle.packed_tables.proofs.Words.{in_threes, one_by_one, indices_of, row_word, new_word, new-word-row}
use Rattle.joined_slots.specs.OneCell.{each, class_of}
use Rattle.joined_edges.proofs.NewEdges.{new_edges-edges}

-- ---- by class and sign byte

pub record Words (class s row fresh : ℕ) : Type 0 where
  pub row-edges : in_threes row ≡ row_edges s
  pub new-edges : one_by_one fresh ≡ new_edges (owned_in class) (row_edges s)
  pub row-known : Edges (in_threes row)
  pub new-known : Edges (one_by_one fresh)
  pub new-count : length (new_edges (owned_in class) (row_edges s)) ≡ fresh / 2 ^ 60
  pub row-most : 3 * (row / 2 ^ 60) ≤ 15
  pub new-most : fresh / 2 ^ 60 ≤ 3 * (row / 2 ^ 60)
  pub same-indices : indices_of fresh ≡ 3 * (row / 2 ^ 60)

le-along : {a b c d : ℕ} → a ≡ c → b ≡ d → a ≤ b → c ≤ d
le-along p q h = omega arith

words-hold : (class s row fresh : ℕ) → s < 256 → in_threes row ≡ row_edges s → one_by_one fresh ≡ new_edges (owned_in class) (row_edges s)
    → indices_of fresh ≡ length (row_edges s) → Words class s row fresh
words-hold class s row fresh hs er en ei =
    let rule = row-rule s hs in
    let all : Edges (row_edges s) = edges-of-each (row_edges s) rule.edge in
    let row_count : length (row_edges s) ≡ 3 * (row / 2 ^ 60) = sym (ap length er) ∙ unpacked-length (3 * (row / 2 ^ 60)) (row % 2 ^ 60) in
    let new-count : length (new_edges (owned_in class) (row_edges s)) ≡ fresh / 2 ^ 60 =
    sym (ap length en) ∙ unpacked-length (fresh / 2 ^ 60) (fresh % 2 ^ 60) in
    record {
      row-edges = er;
      new-edges = en;
      row-known = subst Edges (sym er) all;
      new-known = subst Edges (sym en) (new_edges-edges (owned_in class) (row_edges s) all);
      new-count = new-count;
      row-most = subst (λ (k : ℕ). k ≤ 15) row_count rule.most;
      new-most = le-along new-count row_count (new_edges-length-le (owned_in class) (row_edges s));
      same-indices = ei ∙ row_count;
    }

-- how far the counts go with them
pub counts-grown : (class s row fresh made written made-now written-now : ℕ) → Words class s row fresh → made ≤ written
    → made-now ≡ made + length (new_edges (owned_in class) (row_edges s)) → written-now ≡ written + 3 * (row / 2 ^ 60)
    → (made-now ≤ written-now) × (written-now ≤ written + 15)
counts-grown class s row fresh made written made-now written-now w h a b =
    let most = w.row-most in
    let fewer = w.new-most in
    let count = w.new-count in
    (omega arith, omega arith)

-- as the code reads them
words : (class s i fresh : ℕ) (rows : List ℕ) → class < 8 → s < 256 → rows ≡ row_words → i ≡ s
    → fresh ≡ get_or new_words (256 * class + s) 0 → Words class s (get_or rows i 0) fresh
words class s i fresh rows hc hs er ei known =
    words-hold class s (get_or rows i 0) fresh hs
    (ap₂ (λ (l : List ℕ) (k : ℕ). in_threes (get_or l k 0)) er ei ∙ row_word s hs)
    (ap one_by_one known ∙ new_word class s hc hs)
    (ap indices_of known ∙ new-word-row class s hc hs)

-- where the row's own word is not read
pub new-words : (class s fresh : ℕ) → s < 256 → class < 8 → fresh ≡ get_or new_words (256 * class + s) 0
    → Words class s (get_or row_words s 0) fresh
new-words class s fresh hs hc e = words class s s fresh row_words hc hs refl refl e

-- ---- of a cell

bit_le : (b : Bool) → bit b ≤ 1
bit_le true = omega arith
bit_le false = omega arith

pub class-lt : (x y z class : ℕ) → class ≡ class_of x y z → class < 8
class-lt x y z class e = omega (arith, bit_le (eqb x 0), bit_le (eqb y 0), bit_le (eqb z 0))

class-of-bits : (class : ℕ) (a b c : Bool) → class ≡ bit a + 2 * bit b + 4 * bit c → owned_in class ≡ owned a b c
class-of-bits class a b c e = ap owned_in e ∙ owned_by a b c
  where
    owned_by : (a b c : Bool) → owned_in (bit a + 2 * bit b + 4 * bit c) ≡ owned a b c
    owned_by true true true = refl
    owned_by true true false = refl
    owned_by true false true = refl
    owned_by true false false = refl
    owned_by false true true = refl
    owned_by false true false = refl
    owned_by false false true = refl
    owned_by false false false = refl

class-owned : (x y z class : ℕ) → class ≡ class_of x y z → owned_in class ≡ owned (eqb x 0) (eqb y 0) (eqb z 0)
class-owned x y z class e = class-of-bits class (eqb x 0) (eqb y 0) (eqb z 0) (omega arith)

pub case-lt : (g : Inside) (x y z s : ℕ) → s ≡ signs g x y z → s < 256
case-lt g x y z s e = subst (λ (k : ℕ). k < 256) (sym e) (signs-lt g x y z)

pub cell-words : (g : Inside) (x y z class s i : ℕ) (rows : List ℕ) → rows ≡ row_words → i ≡ s → s ≡ signs g x y z
    → class ≡ class_of x y z → Words class s (get_or rows i 0) (get_or new_words (256 * class + s) 0)
cell-words g x y z class s i rows er ei es ec =
    words class s i (get_or new_words (256 * class + s) 0) rows (class-lt x y z class ec) (case-lt g x y z s es) er ei refl

module _ (g : Inside) (x y z class s row fresh : ℕ) (es : s ≡ signs g x y z) (ec : class ≡ class_of x y z) (w : Words class s row fresh) where
  row-of-cell : in_threes row ≡ cell_edges g x y z
  unfolding cell_edges
  row-of-cell = w.row-edges ∙ ap row_edges es

  new-of-cell : new_edges (owned_in class) (row_edges s) ≡ cell_new g x y z
  unfolding cell_new cell_edges
  new-of-cell = ap₂ new_edges (class-owned x y z class ec) (ap row_edges es)

  -- the code's two passes are the cell
  pub cell-passes : {B : Type 0} (store : Visit → ℕ → B → B) (n : ℕ) (before made named : Lent (List ℕ) B)
      → made ≡ each (make_edge store n z y x) (new_edges (owned_in class) (row_edges s)) before → named ≡ each (name_edge store n z y x) (in_threes row) made
      → named ≡ owned_cell store n g z y x before
  unfolding owned_cell each
  cell-passes store n before made named em en =
      en ∙ ap₂ (λ (r : List ℕ) (t : Lent (List ℕ) _). each (name_edge store n z y x) r t) row-of-cell
      (em ∙ ap (λ (l : List ℕ). each (make_edge store n z y x) l before) new-of-cell)

  -- and their numbers its counts
  pub cell-counts : (before after : Count) → after.made ≡ before.made + fresh / 2 ^ 60 → after.written ≡ before.written + 3 * (row / 2 ^ 60)
      → after ≡ count_cell g z y x before
  cell-counts before after em en =
      ap₂ (λ (i j : ℕ). record { made = i; written = j })
      (em ∙ ap (λ (k : ℕ). before.made + k) (sym w.new-count ∙ ap length new-of-cell))
      (en ∙ ap (λ (k : ℕ). before.written + k) (sym (unpacked-length (3 * (row / 2 ^ 60)) (row % 2 ^ 60)) ∙ ap length row-of-cell))
