-- The three numbers that are interleaved in a word, and the sum and difference of two words by them: document 01, "Morton keys".
-- That each is the number on its axis of the result is `on_axis-interleave` of proofs/Interleaved.antt.
use Rattle.std.specs.Prelude.{ℕ, zero, suc, ◌+◌, ◌-◌, ◌*◌, ◌/◌, ◌%◌, ◌^◌}

-- n bits of a word, every third one from the lowest on, as a number
unfoldable pub thirds : ℕ → ℕ → ℕ
thirds zero word = 0
thirds (suc n) word = thirds n (word / 8) * 2 + word % 2

-- the n low bits of a number, at every third place from the lowest on
unfoldable pub spread : ℕ → ℕ → ℕ
spread zero number = 0
spread (suc n) number = spread n (number / 2) * 8 + number % 2

pub data Axis : Type 0 where
  X Y Z : Axis

-- where an axis begins, and how many of the 64 bits are its own: x has 0, 3, .., 63, y has 1, 4, .., 61, z has 2, 5, .., 62
abbrev pub place : Axis → ℕ
place X = 0
place Y = 1
place Z = 2

abbrev pub width : Axis → ℕ
width X = 22
width Y = 21
width Z = 21

-- the number on an axis of a word
abbrev pub on_axis : Axis → ℕ → ℕ
on_axis axis word = thirds (width axis) (word / 2 ^ place axis)

-- a number in the bits of an axis, and a word of three
abbrev pub along : Axis → ℕ → ℕ
along axis number = spread (width axis) number * 2 ^ place axis

abbrev pub interleave : (Axis → ℕ) → ℕ
interleave numbers = along Z (numbers Z) + along Y (numbers Y) + along X (numbers X)

-- on each axis, modulo 2 to its width
abbrev pub sum_of : ℕ → ℕ → ℕ
sum_of a b = interleave (λ axis. (on_axis axis a + on_axis axis b) % 2 ^ width axis)

abbrev pub difference_of : ℕ → ℕ → ℕ
difference_of a b = interleave (λ axis. (on_axis axis a + 2 ^ width axis - on_axis axis b) % 2 ^ width axis)
