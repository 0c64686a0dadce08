-- Numbers and floats as document 01's listing has them, in ASCII: decimal, and eight hex digits of a float's bits.
use Rattle.std.specs.Prelude.{cond, List, [], ◌∷◌, ◌++◌, ℕ, zero, suc, ◌+◌, ◌/◌, ◌%◌, ltb, Float}
use Rattle.std.specs.Float.{binary32}
use Rattle.std.specs.Float.Ieee.{to_bits}

-- `0` to `9`, then `A` to `F`
abbrev pub glyph : ℕ → ℕ
glyph digit = cond (ltb digit 10) (48 + digit) (55 + digit)

-- the last so many digits of n, the highest first
abbrev pub digits : ℕ → ℕ → ℕ → List ℕ
digits base zero n = []
digits base (suc places) n = digits base places (n / base) ++ (glyph (n % base) ∷ [])

-- how many decimal digits n has: 1 where it is below 10, else one more than its tenth has; `more` bounds the tenths
abbrev pub places_within : ℕ → ℕ → ℕ
places_within zero n = 1
places_within (suc more) n = cond (ltb n 10) 1 (suc (places_within more (n / 10)))

-- a u64 has at most 20 digits
abbrev pub decimal : ℕ → List ℕ
decimal n = digits 10 (places_within 19 n) n

-- a space before each
unfoldable pub number_word : ℕ → List ℕ
number_word n = 32 ∷ decimal n

unfoldable pub float_word : Float → List ℕ
float_word x = 32 ∷ digits 16 8 (to_bits binary32 x)
