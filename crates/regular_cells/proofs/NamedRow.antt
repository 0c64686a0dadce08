-- The row of a regular cell: the numbers of its edges, put as indices triangle by triangle, are what naming edge by edge puts. For `regular_visits`.
use mathlib.Core.Path.{◌≡◌, refl}
use mathlib.Core.List.{List}
use Prim.Native.Nat.{ℕ, ◌+◌, ◌*◌}
use lib.ListN.{get_or}
use lib.Ieee.{Float}
use Rattle.walk_models.specs.Lent.{Lent}
use Rattle.walk_models.specs.CacheMemory.{CacheMemory}
use Rattle.packed_tables.specs.Listed.{numbers_put}
use Rattle.packed_tables.specs.Unpacked.{unpacked, triangles}
use Rattle.packed_tables.proofs.NumbersPut.{row-named}
use Rattle.held_visits.specs.CellMemory.{in_cell, hand}
use Rattle.regular_cells.specs.RegularCell.{name_held, name_edges}

module _ (work : List ℕ) (layer row : ℕ) (current : List ℕ) (b : List Float) (made : ℕ) where
  abbrev now : List ℕ → ℕ → Lent CacheMemory (List Float)
  now indices written = hand (in_cell work layer row current) b indices made written

  pub row-held : (count word : ℕ) (indices after : List ℕ) (written reached : ℕ)
      → after ≡ numbers_put (λ e. get_or current e 0) (triangles count word) written indices
      → reached ≡ written + 3 * count
      → now after reached ≡ name_edges (unpacked (3 * count) word) (now indices written)
  unfolding name_edges name_held
  row-held count word indices after written reached e h =
      row-named (λ d. get_or current d 0) name_held now (λ d l w. refl) count word indices after written reached e h
