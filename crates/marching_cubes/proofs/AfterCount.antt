-- What `meshed` knows after `count`: the working memory is clear, for `fill` and after it, and a mesh of nothing is written already.
use mathlib.Core.Path.{◌≡◌, refl, ap, ◌∙◌}
use mathlib.Core.List.{List, [], ◌∷◌, map}
use Prim.Native.Nat.{ℕ, ◌*◌, ◌<◌}
use native.Mathlib.Omega.{arith}
use lib.ListN.{length, get_or, drop, length-map}
use lib.Ieee.{Float}
use Rattle.lent_mesh.specs.Grid.{position_at, floats_of}
use Rattle.lent_mesh.proofs.Floats.{floats_of-length}
use Rattle.outcome.specs.Outcome.{Surface, over}
use Rattle.passes.proofs.Cleared.{cleared, cleared_at, cleared-tail, cleared-same}

-- ---- working memory

-- cleared twice
pub cleared-again : (k : ℕ) (work first second : List ℕ) → first ≡ cleared k work → second ≡ cleared k first → second ≡ cleared k work
cleared-again k work first second e f = f ∙ cleared-same k first work (ap (drop k) e ∙ cleared-tail k work)

-- what `fill` is told of the memory that `count` leaves
pub cleared-zeros : (k : ℕ) (work first : List ℕ) → first ≡ cleared k work → (i : ℕ) → i < k → get_or first i 0 ≡ 0
cleared-zeros k work first e i h = ap (λ (l : List ℕ). get_or l i 0) e ∙ cleared_at k work i h

-- ---- a grid without a surface: nothing is written, and there was nothing to write

pub over_none : {A : Type 0} (new old : List A) → length new ≡ 0 → old ≡ over new old
over_none [] old e = refl
over_none (a ∷ new) old e = absurd (omega arith)

pub over-no-floats : (n : ℕ) (samples : List Float) (s : Surface) (vertices : List Float) → length s.made ≡ 0
    → vertices ≡ over (floats_of (map (position_at n samples) s.made)) vertices
over-no-floats n samples s vertices e =
    over_none (floats_of (map (position_at n samples) s.made)) vertices
    (floats_of-length (map (position_at n samples) s.made) ∙ ap (λ (k : ℕ). 3 * k) (length-map s.made (position_at n samples) ∙ e))
