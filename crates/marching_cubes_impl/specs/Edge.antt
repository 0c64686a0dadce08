-- What is answered about one grid edge, from the samples at its two ends in order: document 01, "Grid and walk", and cause 5 of its table.
-- Held to W8 and W11 by `proofs/Cases.antt`, and to the Rust's `get_offset` by the oracle.
use Rattle.std.specs.Prelude.{Bool, cond, ℕ, Float}
use Rattle.std.specs.Float.{binary32}
use Rattle.std.specs.Float.Ieee.{unlike, sub, neg, div, eq}
use Rattle.marching_cubes_impl.specs.declared.edge.Crossing.{Crossing}
use Rattle.marching_cubes_impl.specs.declared.edge.Crossing.TheVariants.{Absent, At, Refused}
use Rattle.marching_cubes_impl.specs.Sample.{nought, half, inside, good}

-- delta = b - a; 0.5 where delta is 0, else -a / delta
unfoldable pub offset_of : Float → Float → Float
offset_of a b = let delta = sub binary32 b a in cond (eq delta nought) half (div binary32 (neg a) delta)

-- exactly one end is inside
unfoldable pub crosses : Float → Float → Bool
crosses a b = unlike (inside a) (inside b)

-- the first bad end is refused; then there is a crossing exactly where one end is inside
abbrev pub crossing_of : Float → Float → Crossing
crossing_of a b =
    cond (good a) (cond (good b) (cond (crosses a b) (At (offset_of a b)) Absent) (Refused 1)) (Refused 0)

-- document 01's cause and place of an answer, and the offset that it carries
abbrev pub cause_of : Crossing → ℕ
cause_of Absent = 0
cause_of (At t) = 0
cause_of (Refused place) = 5

abbrev pub place_of : Crossing → ℕ
place_of Absent = 0
place_of (At t) = 0
place_of (Refused place) = place

abbrev pub offset_in : Crossing → Float
offset_in Absent = nought
offset_in (At t) = t
offset_in (Refused place) = nought
