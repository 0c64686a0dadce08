-- Samples that are refused: cause 5 of document 01's table, which answers with the lowest place.
use Rattle.std.specs.Prelude.{Bool, false, cond, not, ◌||◌, List, [], ◌∷◌, ℕ, suc, Float}
use Rattle.marching_cubes_impl.specs.Sample.{good}

-- the lowest place whose sample is not good; the length where all are good
unfoldable pub lowest_bad : List Float → ℕ
lowest_bad [] = 0
lowest_bad (v ∷ vs) = cond (good v) (suc (lowest_bad vs)) 0

-- is one of them not good?
unfoldable pub any_bad : List Float → Bool
any_bad [] = false
any_bad (v ∷ vs) = not (good v) || any_bad vs
