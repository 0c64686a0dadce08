-- Document 01's case W9, with the refusals and both ends of the levels beside it, as one claim over a list.
use mathlib.Core.Path.{◌≡◌, refl}
use mathlib.Core.Bool.{false}
use mathlib.Core.List.{[], ◌∷◌, map}
use Prim.Native.Nat.{ℕ}
use lib.Count.{count_leading_zeros}
use lib.IntN.{negsuc}
use lib.Ieee.{Float, fin}
use Rattle.std.specs.Prelude.{Result, Ok, Err}
use Rattle.morton.specs.declared.BadKey.{BadKey}
use Rattle.morton_cells.specs.declared.Vec3.{Vec3}
use Rattle.morton.specs.Key.{top_bit, good, level_in}
use Rattle.morton_sums.specs.Interleaved.{thirds, spread, sum_of, difference_of}
use Rattle.morton.specs.Answer.{bad_key, level_of, parent_of, child_of}
use Rattle.morton_cells.specs.Cell.{half_size_of, center_of}

-- what is asked
data Case : Type 0 where
  level parent half_size center : ℕ → Case
  child sum difference : ℕ → ℕ → Case

data Answer : Type 0 where
  is_number : Result ℕ BadKey → Answer
  is_length : Result Float BadKey → Answer
  is_point : Result Vec3 BadKey → Answer
  is_word : ℕ → Answer

abbrev answer : Case → Answer
answer (level key) = is_number (level_of key)
answer (parent key) = is_number (parent_of key)
answer (child key which) = is_number (child_of key which)
answer (half_size key) = is_length (half_size_of key)
answer (center key) = is_point (center_of key)
answer (sum a b) = is_word (sum_of a b)
answer (difference a b) = is_word (difference_of a b)

abbrev quarter : Float
quarter = fin false 1 (negsuc 1)

abbrev refused : Answer
refused = is_number (Err bad_key)

cases : map answer (
    -- W9: key 8
    level 8 ∷
    parent 8 ∷
    center 8 ∷
    half_size 8 ∷
    -- the root
    level 1 ∷
    parent 1 ∷
    child 1 7 ∷
    -- keys that are not good, and children that are none
    level 0 ∷
    level 2 ∷
    child 1 8 ∷
    child 0x8000_0000_0000_0000 0 ∷
    -- the last level
    level 0xFFFF_FFFF_FFFF_FFFF ∷
    -- each axis wraps in its own bits
    sum 0xFFFF_FFFF_FFFF_FFFF 7 ∷
    difference 0 7 ∷
    []) ≡
    is_number (Ok 1) ∷
    is_number (Ok 1) ∷
    is_point (Ok (record { x = quarter; y = quarter; z = quarter })) ∷
    is_length (Ok quarter) ∷
    is_number (Ok 0) ∷
    is_number (Ok 1) ∷
    is_number (Ok 15) ∷
    refused ∷
    refused ∷
    refused ∷
    refused ∷
    is_number (Ok 21) ∷
    is_word 0 ∷
    is_word 0xFFFF_FFFF_FFFF_FFFF ∷
    []
unfolding count_leading_zeros top_bit good level_in thirds spread
cases = refl
