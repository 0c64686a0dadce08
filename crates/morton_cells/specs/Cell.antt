-- The half-size and the center of a key's cell: document 01, "Morton keys", and cause 9 of its table. Lengths are exact numbers:
-- `fin false m e` is m * 2 ^ e, and `negsuc n` is -(n + 1). That f32 holds each is shown in proofs/Exact.antt. Held to W9 by
-- proofs/Cases.antt, and to the Rust by the oracle.
use Rattle.std.specs.Prelude.{false, cond, ℕ, ◌+◌, ◌*◌, ◌%◌, ◌^◌, negsuc, Float, Result, Ok, Err}
use Rattle.std.specs.Float.{fin}
use Rattle.morton_cells.specs.declared.Vec3.{Vec3}
use Rattle.morton.specs.declared.BadKey.{BadKey}
use Rattle.morton.specs.Key.{good, level_in}
use Rattle.morton.specs.Answer.{bad_key}
use Rattle.morton_sums.specs.Interleaved.{Axis, X, Y, Z, on_axis}

-- 1 / 2 ^ (level + 1)
abbrev pub half_size_at : ℕ → Float
half_size_at level = fin false 1 (negsuc level)

abbrev pub half_size_of : ℕ → Result Float BadKey
half_size_of key = cond (good key) (Ok (half_size_at (level_in key))) (Err bad_key)

-- (2b + 1) / 2 ^ (level + 1)
abbrev pub center_at : ℕ → ℕ → Float
center_at b level = fin false (2 * b + 1) (negsuc level)

-- the number on an axis without the key's highest set bit
abbrev pub below : Axis → ℕ → ℕ
below axis key = on_axis axis key % 2 ^ level_in key

abbrev pub center_on : Axis → ℕ → Float
center_on axis key = center_at (below axis key) (level_in key)

abbrev pub center_of : ℕ → Result Vec3 BadKey
center_of key = cond (good key) (Ok (record { x = center_on X key; y = center_on Y key; z = center_on Z key })) (Err bad_key)
