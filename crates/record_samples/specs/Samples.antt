-- The samples of a record: the words from byte 20 on, as f32.
use Rattle.std.specs.Prelude.{List, map, ◌++◌, ℕ, min, length, take, drop, Float}
use Rattle.std.specs.Float.{binary32}
use Rattle.std.specs.Float.Ieee.{of_bits}
use Rattle.little_endian.specs.Words.{words}

-- every bit pattern of a NaN is the one `nan`
abbrev pub samples_of : List ℕ → List Float
samples_of bytes = map (of_bits binary32) (words (drop 20 bytes))

-- what a buffer holds after the samples are copied into it: as many as there are and as it has room for, then what it held
abbrev pub copied : List ℕ → List Float → List Float
copied bytes buffer =
    let count = min (length buffer) (length (samples_of bytes)) in
    take count (samples_of bytes) ++ drop count buffer
