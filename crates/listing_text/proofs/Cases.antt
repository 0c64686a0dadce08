-- Lines as document 01 has them: the whole listing of W4, a refusal, and numbers and bits at the ends of their ranges, as one claim over a list of texts
-- and what they must be.
use mathlib.Core.Path.{◌≡◌, refl}
use mathlib.Core.List.{List, [], ◌∷◌, ◌++◌, map}
use Prim.Native.Nat.{ℕ}
use lib.Ieee.{Float, binary32, of_bits, to_bits}
use Rattle.listing_words.specs.Digits.{number_word, float_word}
use Rattle.listing_text.specs.Lines.{refused_line, mesh_text}

-- the vertices of W4, by their bits
pub corners : List Float
corners =
    map (of_bits binary32)
    (0x3F000000 ∷ 0 ∷ 0x3F800000 ∷ 0 ∷ 0x3F000000 ∷ 0x3F800000 ∷ 0 ∷ 0 ∷ 0x3F000000 ∷ 0 ∷ 0 ∷ 0x3FC00000 ∷ [])

pub made : List (List ℕ)
made =
    mesh_text 2 1 corners (0 ∷ 1 ∷ 2 ∷ 0 ∷ 3 ∷ 1 ∷ [])
    ∷ refused_line 5 7
    ∷ number_word 0
    ∷ number_word 10
    ∷ number_word 18446744073709551615
    ∷ float_word (of_bits binary32 0x80000000)
    ∷ float_word (of_bits binary32 0xFF7FFFFF)
    ∷ []

-- document 01's seven lines of W4; "refused 5 at 7"; " 0"; " 10"; the largest u64; minus zero; the lowest finite float
pub owed : List (List ℕ)
owed =
    ((115 ∷ 105 ∷ 122 ∷ 101 ∷ 32 ∷ 50 ∷ 32 ∷ 110 ∷ 117 ∷ 109 ∷ 98 ∷ 101 ∷ 114 ∷ 105 ∷ 110 ∷ 103 ∷ 32 ∷ 106 ∷ 111 ∷ 105 ∷ 110 ∷ 101 ∷ 100 ∷ 32 ∷ 118 ∷ 101 ∷ 114 ∷ 116 ∷ 105 ∷ 99 ∷ 101 ∷ 115 ∷ 32 ∷ 52 ∷ 32 ∷ 105 ∷ 110 ∷ 100 ∷ 105 ∷ 99 ∷ 101 ∷ 115 ∷ 32 ∷ 54 ∷ 10 ∷ [])
    ++ (118 ∷ 32 ∷ 51 ∷ 70 ∷ 48 ∷ 48 ∷ 48 ∷ 48 ∷ 48 ∷ 48 ∷ 32 ∷ 48 ∷ 48 ∷ 48 ∷ 48 ∷ 48 ∷ 48 ∷ 48 ∷ 48 ∷ 32 ∷ 51 ∷ 70 ∷ 56 ∷ 48 ∷ 48 ∷ 48 ∷ 48 ∷ 48 ∷ 10 ∷ [])
    ++ (118 ∷ 32 ∷ 48 ∷ 48 ∷ 48 ∷ 48 ∷ 48 ∷ 48 ∷ 48 ∷ 48 ∷ 32 ∷ 51 ∷ 70 ∷ 48 ∷ 48 ∷ 48 ∷ 48 ∷ 48 ∷ 48 ∷ 32 ∷ 51 ∷ 70 ∷ 56 ∷ 48 ∷ 48 ∷ 48 ∷ 48 ∷ 48 ∷ 10 ∷ [])
    ++ (118 ∷ 32 ∷ 48 ∷ 48 ∷ 48 ∷ 48 ∷ 48 ∷ 48 ∷ 48 ∷ 48 ∷ 32 ∷ 48 ∷ 48 ∷ 48 ∷ 48 ∷ 48 ∷ 48 ∷ 48 ∷ 48 ∷ 32 ∷ 51 ∷ 70 ∷ 48 ∷ 48 ∷ 48 ∷ 48 ∷ 48 ∷ 48 ∷ 10 ∷ [])
    ++ (118 ∷ 32 ∷ 48 ∷ 48 ∷ 48 ∷ 48 ∷ 48 ∷ 48 ∷ 48 ∷ 48 ∷ 32 ∷ 48 ∷ 48 ∷ 48 ∷ 48 ∷ 48 ∷ 48 ∷ 48 ∷ 48 ∷ 32 ∷ 51 ∷ 70 ∷ 67 ∷ 48 ∷ 48 ∷ 48 ∷ 48 ∷ 48 ∷ 10 ∷ [])
    ++ (102 ∷ 32 ∷ 48 ∷ 32 ∷ 49 ∷ 32 ∷ 50 ∷ 10 ∷ [])
    ++ (102 ∷ 32 ∷ 48 ∷ 32 ∷ 51 ∷ 32 ∷ 49 ∷ 10 ∷ []))
    ∷ (114 ∷ 101 ∷ 102 ∷ 117 ∷ 115 ∷ 101 ∷ 100 ∷ 32 ∷ 53 ∷ 32 ∷ 97 ∷ 116 ∷ 32 ∷ 55 ∷ 10 ∷ [])
    ∷ (32 ∷ 48 ∷ [])
    ∷ (32 ∷ 49 ∷ 48 ∷ [])
    ∷ (32 ∷ 49 ∷ 56 ∷ 52 ∷ 52 ∷ 54 ∷ 55 ∷ 52 ∷ 52 ∷ 48 ∷ 55 ∷ 51 ∷ 55 ∷ 48 ∷ 57 ∷ 53 ∷ 53 ∷ 49 ∷ 54 ∷ 49 ∷ 53 ∷ [])
    ∷ (32 ∷ 56 ∷ 48 ∷ 48 ∷ 48 ∷ 48 ∷ 48 ∷ 48 ∷ 48 ∷ [])
    ∷ (32 ∷ 70 ∷ 70 ∷ 55 ∷ 70 ∷ 70 ∷ 70 ∷ 70 ∷ 70 ∷ [])
    ∷ []

pub lines-hold : made ≡ owed
unfolding number_word float_word of_bits to_bits owed made corners
lines-hold = refl
