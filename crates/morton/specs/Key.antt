-- What a Morton key is: document 01, "Morton keys". The level is held to the highest set bit by `top_bit-at` of proofs/TopBit.antt.
use Rattle.std.specs.Prelude.{Bool, not, ◌&&◌, ℕ, ◌-◌, ◌/◌, ◌%◌, eqb}
use Rattle.std.specs.Int.Count.{count_leading_zeros}

-- the place of the highest set bit of a word that is not 0
unfoldable pub top_bit : ℕ → ℕ
top_bit key = 63 - count_leading_zeros 64 key

-- the key is not 0, and its highest set bit stands at a multiple of 3
unfoldable pub good : ℕ → Bool
good key = not (eqb key 0) && eqb (top_bit key % 3) 0

-- the level of a good key
unfoldable pub level_in : ℕ → ℕ
level_in key = top_bit key / 3
