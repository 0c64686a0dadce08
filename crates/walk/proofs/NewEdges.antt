-- How many new edges a row has: as many as there are edges of the twelve that it names and that are new, in whatever order; no more than it has edges.
use mathlib.Core.Path.{◌≡◌, refl, sym, ap, ap₂, ◌∙◌}
use mathlib.Core.Logic.{⊎_elim}
use mathlib.Core.Bool.{Bool, true, false, not, ◌&&◌, ◌||◌, and-false, true≢false}
use mathlib.Core.List.{List, [], ◌∷◌}
use Prim.Native.Nat.{ℕ, zero, suc, ◌+◌, ◌≤◌, ◌<◌}
use native.Mathlib.Nat.{not-suc-le-zero, le_of_suc-le-suc}
use native.Mathlib.Omega.{arith}
use lib.Dec.{eqb}
use lib.ListN.{length, get_or}
use borrow.Author.Tests.{eqb-true, ne_eqb, eq-eqb}
use Rattle.marching_cubes_tables.specs.Rule.{member}
use Rattle.walk.specs.Walk.{bit}
use Rattle.walk.specs.Ownership.{new_edges}
use Rattle.walk.proofs.Bools.{bool_cases}

pub new_edges-length-le : (new : ℕ → Bool) (r : List ℕ) → length (new_edges new r) ≤ length r
unfolding new_edges
new_edges-length-le new [] = omega arith
new_edges-length-le new (e ∷ r) =
    ⊎_elim
    (λ (t : new e ≡ true). let taken = new_edges-length-le (λ d. new d && not (eqb d e)) r in rw t (omega arith))
    (λ (t : new e ≡ false). let passed = new_edges-length-le new r in rw t (omega arith))
    (bool_cases (new e))

-- ---- how many of f 0, f 1, .. f (k - 1) are true

unfoldable pub counted : ℕ → (ℕ → Bool) → ℕ
counted zero f = 0
counted (suc k) f = bit (f 0) + counted k (λ i. f (suc i))

pub counted-ext : (k : ℕ) (f h : ℕ → Bool) → ((i : ℕ) → i < k → f i ≡ h i) → counted k f ≡ counted k h
unfolding counted
counted-ext zero f h e = refl
counted-ext (suc k) f h e = ap₂ (λ (b : Bool) (m : ℕ). bit b + m) (e 0 (omega arith)) (counted-ext k _ _ (λ i l. e (suc i) (omega arith)))

-- alike but at one place
counted-one : (k e : ℕ) (f h : ℕ → Bool) → e < k → f e ≡ true → h e ≡ false → ((i : ℕ) → (i ≡ e → ⊥) → f i ≡ h i) → counted k f ≡ suc (counted k h)
unfolding counted
counted-one zero e f h l t u s = absurd (not-suc-le-zero l)
counted-one (suc k) zero f h l t u s =
    let same = counted-ext k (λ i. f (suc i)) (λ i. h (suc i)) (λ i li. s (suc i) (λ q. omega arith)) in
    rw (t, u) (omega arith)
counted-one (suc k) (suc e) f h l t u s =
    let next = counted-one k e (λ i. f (suc i)) (λ i. h (suc i)) (le_of_suc-le-suc l) t u (λ i n. s (suc i) (λ q. n (omega arith))) in
    rw (s 0 (λ q. omega arith)) (omega arith)

-- ---- the new edges by the twelve

pub new_edges-counted : (es : List ℕ) (new : ℕ → Bool) → ((j : ℕ) → j < length es → get_or es j 0 < 12) → length (new_edges new es) ≡ counted 12 (λ e. member e es && new e)
unfolding new_edges counted
new_edges-counted [] new each = refl
new_edges-counted (e ∷ es) new each =
    ⊎_elim
    (λ (t : new e ≡ true).
    let later : ℕ → Bool = λ d. new d && not (eqb d e) in
    let same : eqb e e ≡ true = eq-eqb e e refl in
    rw t
    (ap suc (new_edges-counted es later (λ j l. each (suc j) (omega arith)))
    ∙ sym (counted-one 12 e (λ d. (eqb d e || member d es) && new d) (λ d. member d es && (new d && not (eqb d e))) (each 0 (omega arith)) (rw (same, t)) (rw (same, t, and-false (member e es)))
    (λ i n. let other : eqb i e ≡ false = ne_eqb i e n in rw other (at_other (member i es) (new i))))))
    (λ (t : new e ≡ false).
    rw t
    (new_edges-counted es new (λ j l. each (suc j) (omega arith))
    ∙ counted-ext 12 (λ d. member d es && new d) (λ d. (eqb d e || member d es) && new d) (λ i l. held (eqb i e) (member i es) (new i) (λ q. ap new (eqb-true i e q) ∙ t))))
    (bool_cases (new e))
  where
    at_other : (m w : Bool) → (m && w) ≡ (m && (w && true))
    at_other true true = refl
    at_other true false = refl
    at_other false w = refl

    held : (q m w : Bool) → (q ≡ true → w ≡ false) → (m && w) ≡ ((q || m) && w)
    held true m true f = absurd (true≢false (f refl))
    held true true false f = refl
    held true false false f = refl
    held false m w f = refl
