-- One sample: whether it is inside, and whether it is refused. Document 01, "Grid and walk" and cause 5 of its table.
use Rattle.std.specs.Prelude.{Bool, false, ◌*◌, ◌^◌, leb, pos, negsuc, Float}
use Rattle.std.specs.Float.{nan, inf, fin}
use Rattle.std.specs.Float.Ieee.{up, down, le}

-- 0.0, 0.5 and 1.0
abbrev pub nought : Float
nought = fin false 0 (pos 0)

abbrev pub half : Float
half = fin false 1 (negsuc 0)

abbrev pub one : Float
one = fin false 1 (pos 0)

-- v <= 0.0: both zeros are inside, and a NaN is not
unfoldable pub inside : Float → Bool
inside v = le v nought

-- finite, and of magnitude at most 2 ^ 126; the magnitude of `fin s m e` is m * up e / down e
unfoldable pub good : Float → Bool
good nan = false
good (inf s) = false
good (fin s m e) = leb (m * up e) (2 ^ 126 * down e)
