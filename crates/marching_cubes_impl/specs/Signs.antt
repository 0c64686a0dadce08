-- The sign byte of a list of corner values: bit i is set exactly when value i is inside.
use Rattle.std.specs.Prelude.{Bool, cond, List, [], ◌∷◌, ℕ, ◌+◌, ◌*◌, Float}
use Rattle.marching_cubes_impl.specs.Sample.{inside}

abbrev pub bit : Bool → ℕ
bit b = cond b 1 0

abbrev pub sign_byte : List Float → ℕ
sign_byte [] = 0
sign_byte (v ∷ vs) = bit (inside v) + 2 * sign_byte vs
