-- What a caller of `active` relies on: the word has no bit past its cells, and a cell whose bit is 0 visits nothing.
use mathlib.Core.Path.{◌≡◌, refl, sym, ◌∙◌}
use mathlib.Core.Bool.{Bool, true, false, ◌||◌}
use mathlib.Core.Logic.{⊎_elim}
use mathlib.Core.List.{List, []}
use Prim.Native.Nat.{ℕ, ◌+◌, ◌*◌, ◌^◌, ◌<◌}
use native.Mathlib.Omega.{arith}
use lib.Dec.{eqb}
use lib.Ieee.{Float}
use borrow.Author.Tests.{eqb-true, not-false}
use Rattle.marching_cubes_tables.specs.Rule.{bit_at}
use Rattle.walk.specs.Walk.{Inside, bit, signs, cell_edges}
use Rattle.walk.proofs.Bools.{or_split}
use Rattle.walk.proofs.CellEdges.{cell_edges-outside, cell_edges-inside}
use Rattle.lent_mesh.specs.Grid.{inside_of}
use Rattle.sign_cells.specs.Cells.{cells_in, mixed, active_word}
use Rattle.sign_words.proofs.Words.{word_of-lt, word_of-bit}

pub mixed-none : (g : Inside) (x y z : ℕ) → mixed g x y z ≡ false → cell_edges g x y z ≡ []
unfolding mixed
mixed-none g x y z h =
    let s = signs g x y z in
    ⊎_elim (λ (e : eqb s 0 ≡ true). cell_edges-outside g x y z (eqb-true s 0 e)) (λ (e : eqb s 255 ≡ true). cell_edges-inside g x y z (eqb-true s 255 e))
    (or_split (eqb s 0) (eqb s 255) (not-false (eqb s 0 || eqb s 255) h))

pub bit-none : (b : Bool) → bit b ≡ 0 → b ≡ false
bit-none true e = absurd (omega arith)
bit-none false e = refl

module _ (n : ℕ) (samples : List Float) (y z k : ℕ) where
  pub active_word-lt : active_word n samples y z k < 2 ^ cells_in n k
  active_word-lt = word_of-lt (λ i. mixed (inside_of n samples) (32 * k + i) y z) (cells_in n k)

  pub active_word-bit : (i : ℕ) → i < cells_in n k → bit_at (active_word n samples y z k) i ≡ bit (mixed (inside_of n samples) (32 * k + i) y z)
  active_word-bit i h = word_of-bit (λ i. mixed (inside_of n samples) (32 * k + i) y z) (cells_in n k) i h

  pub active_word-idle : (i : ℕ) → i < cells_in n k → bit_at (active_word n samples y z k) i ≡ 0 → cell_edges (inside_of n samples) (32 * k + i) y z ≡ []
  active_word-idle i h e = mixed-none (inside_of n samples) (32 * k + i) y z (bit-none (mixed (inside_of n samples) (32 * k + i) y z) (sym (active_word-bit i h) ∙ e))
