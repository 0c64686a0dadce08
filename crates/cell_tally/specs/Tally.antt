-- What 32 cells have together, from a word of signs for each of their eight corners: bit i is the sign of the corner of cell i. A private model, which the
-- contracts of the count cite; nobody need believe it.
use Rattle.std.specs.Prelude.{Bool, false, cond, ℕ, zero, suc, ◌+◌, ◌/◌, eqb, length, get_or}
use Rattle.marching_cubes_tables.specs.Rule.{bit_at}
use Rattle.walk.specs.Walk.{bit}
use Rattle.walk.specs.Ownership.{owned, new_edges}
use Rattle.corner_signs.specs.Signs.{row_of}
use Rattle.cell_tally.specs.declared.Corners.{Corners}

-- f 0 + f 1 + .. + f (k - 1)
unfoldable pub total : (ℕ → ℕ) → ℕ → ℕ
total f zero = 0
total f (suc k) = total f k + f k

abbrev pub is_set : ℕ → ℕ → Bool
is_set word i = eqb (bit_at word i) 1

-- over the cells that the mask has a bit for
abbrev pub in_mask : ℕ → (ℕ → ℕ) → ℕ
in_mask mask f = total (λ i. cond (is_set mask i) (f i) 0) 32

-- how many bits the word has in the mask
abbrev pub set_in : ℕ → ℕ → ℕ
set_in word mask = in_mask mask (λ i. bit (is_set word i))

-- the word of corner k
abbrev pub corner : Corners → ℕ → ℕ
corner c k = get_or c.signs k 0

-- the signs of the eight corners of cell i, and something of them
abbrev pub of_signs : {A : Type 0} → (Bool → Bool → Bool → Bool → Bool → Bool → Bool → Bool → A) → Corners → ℕ → A
of_signs f c i =
    f (is_set (corner c 0) i) (is_set (corner c 1) i) (is_set (corner c 2) i) (is_set (corner c 3) i) (is_set (corner c 4) i) (is_set (corner c 5) i) (is_set (corner c 6) i) (is_set (corner c 7) i)

-- the triangles of the cells
abbrev pub triangles_in : Corners → ℕ → ℕ
triangles_in c mask = in_mask mask (λ i. length (of_signs row_of c i) / 3)

-- their new edges, above the lowest layer; `first` has a bit for a cell with x = 0, `top` for one with y = 0
abbrev pub new_in : Corners → ℕ → ℕ → ℕ → ℕ
new_in c mask first top = in_mask mask (λ i. length (new_edges (owned (is_set first i) (is_set top i) false) (of_signs row_of c i)))
