-- The answers about Morton keys as they cross the C boundary: document 01's cause beside the value, zero where refused.
use Rattle.std.specs.Prelude.{List, [], ◌∷◌, ℕ, Float, Result, Ok, Err}
use Rattle.std.specs.Result.{result_unwrap_or}
use Rattle.std.specs.Float.{binary32}
use Rattle.std.specs.Float.Ieee.{of_bits}
use Rattle.morton.specs.declared.BadKey.{BadKey}
use Rattle.morton.specs.Answer.{key_cause}
use Rattle.morton_cells.specs.declared.Vec3.{Vec3}
use Rattle.key_answer.specs.declared.KeyAnswer.{KeyAnswer}
use Rattle.key_answer.specs.declared.HalfSizeAnswer.{HalfSizeAnswer}

abbrev pub key_answer : Result ℕ BadKey → KeyAnswer
key_answer number = record { cause = key_cause number; value = result_unwrap_or number 0 }

abbrev pub half_size_answer : Result Float BadKey → HalfSizeAnswer
half_size_answer length = record { cause = key_cause length; value = result_unwrap_or length (of_bits binary32 0) }

-- what the lent place holds afterwards: x, y and z, or what it held
abbrev pub center_left : Result Vec3 BadKey → List Float → List Float
center_left (Ok p) before = p.x ∷ p.y ∷ p.z ∷ []
center_left (Err refused) before = before
