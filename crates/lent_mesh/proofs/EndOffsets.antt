-- The bits of the six constants of `vertex_on` are the offsets of the corners at the two ends of each edge: one test over twelve edges, end and axis
-- as its parameters.
use mathlib.Core.Path.{◌≡◌, refl, sym, subst}
use mathlib.Core.Bool.{Bool}
use mathlib.Core.List.{List, [], ◌∷◌}
use Prim.Native.Nat.{ℕ, zero, suc, ◌/◌, ◌%◌, ◌^◌, ◌<◌}
use native.Mathlib.Omega.{arith}
use lib.Dec.{T, eqb, eqb→eq}
use lib.ListN.{length, get_or}
use Rattle.marching_cubes_tables.specs.Tables.{corners, edge_connection, corner_offset, edge_end}
use Rattle.marching_cubes_tables.proofs.Rows.{every, every-at}

-- by end, then by axis
abbrev pub end_offsets : List (List ℕ)
end_offsets = (0x666 ∷ 0xCCC ∷ 0x0F0 ∷ []) ∷ (0x633 ∷ 0xC66 ∷ 0xFF0 ∷ []) ∷ []

abbrev right : ℕ → ℕ → ℕ → List ℕ → Bool
right end axis e ends = eqb (get_or (get_or end_offsets end []) axis 0 / 2 ^ e % 2) (corner_offset (get_or ends end 0) axis)

abbrev right_axis : ℕ → ℕ → ℕ → Bool
right_axis end axis offsets = every (right end axis) 0 edge_connection

abbrev right_end : ℕ → List ℕ → Bool
right_end end axes = every (right_axis end) 0 axes

all_right : T (every right_end 0 end_offsets)
unfolding corners edge_connection
all_right = tt

axes-length : (end : ℕ) → end < 2 → 3 ≡ length (get_or end_offsets end [])
axes-length zero h = refl
axes-length (suc zero) h = refl
axes-length (suc (suc end)) h = absurd (omega arith)

edges-length : length edge_connection ≡ 12
unfolding edge_connection
edges-length = refl

pub end-offset : (end axis e : ℕ) → end < 2 → axis < 3 → e < 12
    → get_or (get_or end_offsets end []) axis 0 / 2 ^ e % 2 ≡ corner_offset (edge_end e end) axis
end-offset end axis e h k l =
    eqb→eq _ _
    (every-at (right end axis) [] edge_connection
    (every-at (right_axis end) 0 (get_or end_offsets end [])
    (every-at right_end [] end_offsets all_right end h) axis (subst (λ (m : ℕ). axis < m) (axes-length end h) k)) e (subst (λ (m : ℕ). e < m) (sym edges-length) l))
