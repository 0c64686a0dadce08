-- What each row of the triangle table is: document 01, "Grid and walk", the paragraph "Over the table". `proofs/Rule.antt` proves it of all 256 rows.
use Rattle.std.specs.Prelude.{◌≡◌, Bool, false, not, ◌&&◌, ◌||◌, List, [], ◌∷◌, ℕ, ◌/◌, ◌%◌, ◌^◌, ◌≤◌, ◌<◌, eqb, ltb, ℤ, pos, negsuc, length, get_or}
use Rattle.marching_cubes_tables.specs.Tables.{edge_end, row}

-- the entries of a row up to the first negative one
abbrev pub named : List ℤ → List ℕ
named [] = []
named (pos e ∷ zs) = e ∷ named zs
named (negsuc n ∷ zs) = []

-- the edges that the row of the sign byte s names
unfoldable pub row_edges : ℕ → List ℕ
row_edges s = named (row s)

-- bit i of s
abbrev pub bit_at : ℕ → ℕ → ℕ
bit_at s i = s / 2 ^ i % 2

-- e is an edge, and its two corners differ in sign
abbrev pub corners_differ : ℕ → ℕ → Bool
corners_differ s e = ltb e 12 && not (eqb (bit_at s (edge_end e 0)) (bit_at s (edge_end e 1)))

abbrev pub member : ℕ → List ℕ → Bool
member e [] = false
member e (x ∷ xs) = eqb e x || member e xs

-- a multiple of three entries, 0 to 15, each an edge; then only -1; and exactly the edges whose corners differ in sign
pub record RowRule (s : ℕ) : Type 0 where
  pub sixteen : length (row s) ≡ 16
  pub threes : length (row_edges s) % 3 ≡ 0
  pub most : length (row_edges s) ≤ 15
  pub edge : (k : ℕ) → k < length (row_edges s) → get_or (row_edges s) k 0 < 12
  pub first : (k : ℕ) → k < length (row_edges s) → get_or (row s) k (pos 0) ≡ pos (get_or (row_edges s) k 0)
  pub rest : (k : ℕ) → length (row_edges s) ≤ k → k < 16 → get_or (row s) k (pos 0) ≡ negsuc 0
  pub crossed : (e : ℕ) → member e (row_edges s) ≡ corners_differ s e
