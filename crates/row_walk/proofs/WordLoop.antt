-- The cells of a word and of a row, for any step that passes over a cell that visits nothing: those whose bit is 0 are passed over.
use mathlib.Core.Path.{◌≡◌, refl}
use mathlib.Core.List.{List, []}
use Prim.Native.Nat.{ℕ, ◌+◌, ◌-◌, ◌*◌, ◌^◌, ◌≤◌, ◌<◌}
use native.Mathlib.Omega.{arith}
use lib.Bits.{bit_and}
use lib.Count.{count_trailing_zeros}
use lib.Ieee.{Float}
use Rattle.marching_cubes_tables.specs.Rule.{bit_at}
use Rattle.walk.specs.Walk.{cell_edges, times}
use Rattle.walk_models.specs.Owned.{Count, cells_of_row}
use Rattle.lent_mesh.specs.Grid.{inside_of}
use Rattle.sign_cells.specs.Cells.{cells_in, active_word}
use Rattle.sign_cells.proofs.ActiveCells.{active_word-lt, active_word-idle}
use Rattle.sign_cells.proofs.LowestBits.{Onward, onward-found, onward-next, onward-last}
use Rattle.sign_cells.proofs.Turns.{times-idle}
use Rattle.row_walk.specs.Steps.{Hand, PassesOver}

abbrev pub hand_count : Hand → Count
hand_count s = record { made = s.made; written = s.written }

module _ (step : ℕ → List Float → ℕ → ℕ → ℕ → Hand → Hand) (n : ℕ) (samples : List Float) (z y : ℕ) where
  abbrev pub word_step : ℕ → ℕ → Hand → Hand
  word_step k i t = step n samples z y (32 * k + i) t

  -- the cells of the word before the lowest bit of `rest` are done
  abbrev pub Walked : ℕ → Hand → Hand → ℕ → ℕ → Type 0
  Walked k start here mask rest = Onward hand_count (word_step k) (cells_in n k) start here mask rest

  module _ (passes : PassesOver step) (k : ℕ) (start here : Hand) (mask rest : ℕ) (on : Walked k start here mask rest) (active : mask ≡ active_word n samples y z k) where
    small : mask < 2 ^ cells_in n k
    small = rw active (active_word-lt n samples y z k)

    idle : (j : ℕ) → j < cells_in n k → bit_at mask j ≡ 0 → word_step k j (times j (word_step k) start) ≡ times j (word_step k) start
    idle j l e = passes n samples z y (32 * k + j) (times j (word_step k) start) (active_word-idle n samples y z k j l (rw active at e))

    pub walked-found : 0 < rest → (count_trailing_zeros 32 rest < cells_in n k) × (here.written ≤ start.written + 15 * count_trailing_zeros 32 rest)
    walked-found p = onward-found hand_count (word_step k) (cells_in n k) start mask here rest on (omega arith) small p

    pub walked_next : (next : Hand) → 0 < rest → next ≡ word_step k (count_trailing_zeros 32 rest) here → next.written ≤ here.written + 15 → next.made ≤ next.written
        → Walked k start next mask (bit_and rest (rest - 1))
    walked_next next p e g o = onward-next hand_count (word_step k) (cells_in n k) start mask here rest on (omega arith) small idle next p e g o

    pub walked-last : rest ≡ 0 → here ≡ times (cells_in n k) (word_step k) start
    walked-last e = onward-last hand_count (word_step k) (cells_in n k) start mask here rest on (omega arith) small idle e

  -- a row of cells that visit nothing
  pub row-idle : (s : Hand) → PassesOver step → ((x : ℕ) → x + 1 < n → cell_edges (inside_of n samples) x y z ≡ [])
      → s ≡ cells_of_row (step n samples) n z y (n - 1) s
  unfolding cells_of_row
  row-idle s passes none =
      times-idle (λ x t. step n samples z y x t) s (n - 1) (λ x h. passes n samples z y x s (none x (omega arith)))
