-- Steps that may change places: an edge and its rank in a list are one number, and a step for each pair gives the same in the order of the edges as in
-- that of the ranks, where the steps of two pairs with neither in common may be exchanged. Serves the cells that make their new edges in a fixed order.
use mathlib.Core.Path.{◌≡◌, refl, ap, ◌∙◌}
use mathlib.Core.Bool.{Bool, true, false, not, ◌&&◌}
use mathlib.Core.List.{List, [], ◌∷◌}
use Prim.Native.Nat.{ℕ, suc, ◌+◌, ◌*◌, ◌/◌, ◌%◌}
use lib.Dec.{T, eqb, ltb}
use lib.Ieee.Fits.{and_i}
use Rattle.marching_cubes_tables.proofs.Tests.{both_left, both_right}
use Rattle.walk.proofs.OwnedCells.{fold}

-- ---- pairs

-- the edges of a list with their ranks, from the rank k on
abbrev pub ranked_from : ℕ → List ℕ → List ℕ
ranked_from k [] = []
ranked_from k (e ∷ es) = (e + 16 * k) ∷ ranked_from (suc k) es

abbrev pub ranked : List ℕ → List ℕ
ranked es = ranked_from 0 es

-- two edges of a cell that differ, and their ranks too
abbrev pub apart : ℕ → ℕ → Bool
apart p q = (ltb (p % 16) 12 && ltb (q % 16) 12) && (not (eqb (p % 16) (q % 16)) && not (eqb (p / 16) (q / 16)))

abbrev placed : Bool → ℕ → ℕ → List ℕ → List ℕ → List ℕ
placed true p q later qs = q ∷ later
placed false p q later qs = p ∷ q ∷ qs

-- before the first pair whose edge is not smaller
abbrev pub insert : ℕ → List ℕ → List ℕ
insert p [] = p ∷ []
insert p (q ∷ qs) = placed (ltb (q % 16) (p % 16)) p q (insert p qs) qs

abbrev pub sorted : List ℕ → List ℕ
sorted [] = []
sorted (p ∷ ps) = insert p (sorted ps)

-- ---- by any test of two pairs

module _ (free : ℕ → ℕ → Bool) where
  abbrev pub free_of : ℕ → List ℕ → Bool
  free_of p [] = true
  free_of p (q ∷ qs) = free p q && free_of p qs

  -- each of those after it
  abbrev pub all_free : List ℕ → Bool
  all_free [] = true
  all_free (p ∷ ps) = free_of p ps && all_free ps

  free_of-placed : (b : Bool) (o p q : ℕ) (later qs : List ℕ) → T (free o p) → T (free o q) → T (free_of o later) → T (free_of o qs)
      → T (free_of o (placed b p q later qs))
  free_of-placed true o p q later qs hp hq hl hs = and_i (free o q) (free_of o later) hq hl
  free_of-placed false o p q later qs hp hq hl hs = and_i (free o p) (free o q && free_of o qs) hp (and_i (free o q) (free_of o qs) hq hs)

  free_of-insert : (o p : ℕ) (qs : List ℕ) → T (free o p) → T (free_of o qs) → T (free_of o (insert p qs))
  free_of-insert o p [] h t = and_i (free o p) true h tt
  free_of-insert o p (q ∷ qs) h t =
      let first = both_left (free o q) (free_of o qs) t in
      let rest = both_right (free o q) (free_of o qs) t in
      free_of-placed (ltb (q % 16) (p % 16)) o p q (insert p qs) qs h first (free_of-insert o p qs h rest) rest

  free_of-sorted : (o : ℕ) (ps : List ℕ) → T (free_of o ps) → T (free_of o (sorted ps))
  free_of-sorted o [] t = tt
  free_of-sorted o (p ∷ ps) t =
      free_of-insert o p (sorted ps) (both_left (free o p) (free_of o ps) t) (free_of-sorted o ps (both_right (free o p) (free_of o ps) t))

  module _ {S : Type 0} (step : ℕ → S → S) (exchange : (p q : ℕ) (s : S) → T (free p q) → step p (step q s) ≡ step q (step p s)) where
    fold-placed : (b : Bool) (p q : ℕ) (later qs : List ℕ) (s : S) → fold step later (step q s) ≡ fold step qs (step q (step p s))
        → fold step (placed b p q later qs) s ≡ fold step qs (step q (step p s))
    unfolding fold
    fold-placed true p q later qs s h = h
    fold-placed false p q later qs s h = refl

    fold-insert : (p : ℕ) (qs : List ℕ) (s : S) → T (free_of p qs) → fold step (insert p qs) s ≡ fold step qs (step p s)
    unfolding fold
    fold-insert p [] s t = refl
    fold-insert p (q ∷ qs) s t =
        fold-placed (ltb (q % 16) (p % 16)) p q (insert p qs) qs s
        (fold-insert p qs (step q s) (both_right (free p q) (free_of p qs) t)
        ∙ ap (fold step qs) (exchange p q s (both_left (free p q) (free_of p qs) t)))

    -- the order of the edges does as well
    pub fold-sorted : (ps : List ℕ) (s : S) → T (all_free ps) → fold step (sorted ps) s ≡ fold step ps s
    unfolding fold
    fold-sorted [] s t = refl
    fold-sorted (p ∷ ps) s t =
        fold-insert p (sorted ps) s (free_of-sorted p ps (both_left (free_of p ps) (all_free ps) t))
        ∙ fold-sorted ps (step p s) (both_right (free_of p ps) (all_free ps) t)
