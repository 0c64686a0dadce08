-- Lists of grid edges: the number of an edge is one more than its first place, or 0 where the list lacks it; what one edge more at the end changes.
use mathlib.Core.Path.{◌≡◌, refl, sym, ap, ◌∙◌}
use mathlib.Core.Logic.{⊎_elim}
use mathlib.Core.Bool.{Bool, true, false, cond, not, ◌&&◌, ◌||◌, or-false, or_assoc}
use mathlib.Core.List.{List, [], ◌∷◌, ◌++◌}
use Prim.Native.Nat.{ℕ, zero, suc, ◌<◌, ◌≤◌}
use native.Mathlib.Omega.{arith}
use lib.ListN.{length}
use lib.Dec.{eqb}
use borrow.Author.Tests.{not-true, ne_eqb}
use Rattle.walk.specs.Edges.{Edge, same, has, distinct}
use Rattle.walk.specs.Numbering.{one_more, number}
use Rattle.walk.proofs.Bools.{bool_cases, and_left, and_right, or-none-left, or-none-right}
use Rattle.walk.proofs.GridEdges.{same_refl, same-sym}

-- ---- `one_more`

one_more-pos : (i : ℕ) → 0 < one_more i → 0 < i
one_more-pos zero h = h
one_more-pos (suc i) h = omega arith

pub one_more-zero : (i : ℕ) → one_more i ≡ 0 → i ≡ 0
one_more-zero zero h = refl
one_more-zero (suc i) h = absurd (let e : suc (suc i) ≡ 0 = h in omega arith)

pub one_more-suc : (q i : ℕ) → one_more q ≡ suc i → q ≡ i × 0 < q
one_more-suc zero i h = absurd (let e : 0 ≡ suc i = h in omega arith)
one_more-suc (suc q) i h = (let e : suc (suc q) ≡ suc i = h in omega arith, omega arith)

-- ---- one more at the end

pub has-snoc : (k m : Edge) (ms : List Edge) → has k (ms ++ (m ∷ [])) ≡ (has k ms || same k m)
unfolding has
has-snoc k m [] = or-false (same k m)
has-snoc k m (x ∷ ms) = ap (λ (b : Bool). same k x || b) (has-snoc k m ms) ∙ sym (or_assoc (same k x) (has k ms) (same k m))

pub distinct_snoc : (m : Edge) (ms : List Edge) → has m ms ≡ false → distinct ms ≡ true → distinct (ms ++ (m ∷ [])) ≡ true
unfolding distinct has
distinct_snoc m [] h d = refl
distinct_snoc m (x ∷ ms) h d =
    let a : same x m ≡ false = same-sym x m ∙ or-none-left (same m x) (has m ms) h in
    let b : has x ms ≡ false = not-true (has x ms) (and_left (not (has x ms)) (distinct ms) d) in
    let c : has x (ms ++ (m ∷ [])) ≡ false = has-snoc x m ms ∙ ap (λ (t : Bool). t || same x m) b ∙ a in
    ap (λ (t : Bool). not t && distinct (ms ++ (m ∷ []))) c
    ∙ distinct_snoc m ms (or-none-right (same m x) (has m ms) h) (and_right (not (has x ms)) (distinct ms) d)

-- an edge that is met keeps its number
pub number_append : (k : Edge) (ms xs : List Edge) → 0 < number k ms → number k (ms ++ xs) ≡ number k ms
unfolding number
number_append k [] xs h = absurd (omega arith)
number_append k (m ∷ ms) xs h =
    ⊎_elim
    (λ (t : same k m ≡ true). rw t)
    (λ (f : same k m ≡ false). ap (λ (i : ℕ). cond (same k m) 1 (one_more i)) (number_append k ms xs (one_more-pos (number k ms) (rw f at h))))
    (bool_cases (same k m))

pub number-snoc-other : (k m : Edge) (ms : List Edge) → same k m ≡ false → number k (ms ++ (m ∷ [])) ≡ number k ms
unfolding number
number-snoc-other k m [] h = rw h
number-snoc-other k m (x ∷ ms) h = ap (λ (i : ℕ). cond (same k x) 1 (one_more i)) (number-snoc-other k m ms h)

pub number-snoc-same : (k : Edge) (ms : List Edge) → number k ms ≡ 0 → number k (ms ++ (k ∷ [])) ≡ suc (length ms)
unfolding number
number-snoc-same k [] e = ap (λ (b : Bool). cond b 1 0) (same_refl k)
number-snoc-same k (x ∷ ms) e =
    ⊎_elim
    (λ (t : same k x ≡ true). absurd (let q : 1 ≡ 0 = rw t at e in omega arith))
    (λ (f : same k x ≡ false).
    ap (λ (b : Bool). cond b 1 (one_more (number k (ms ++ (k ∷ []))))) f
    ∙ ap one_more (number-snoc-same k ms (one_more-zero (number k ms) (rw f at e))))
    (bool_cases (same k x))

-- ---- met or not

pub number-zero : (k : Edge) (ms : List Edge) → number k ms ≡ 0 → has k ms ≡ false
unfolding number has
number-zero k [] h = refl
number-zero k (m ∷ ms) h =
    ⊎_elim
    (λ (t : same k m ≡ true). absurd (let q : 1 ≡ 0 = rw t at h in omega arith))
    (λ (f : same k m ≡ false). rw f (number-zero k ms (one_more-zero (number k ms) (rw f at h))))
    (bool_cases (same k m))

pub number-pos : (k : Edge) (ms : List Edge) → 0 < number k ms → has k ms ≡ true
unfolding number has
number-pos k [] h = absurd (omega arith)
number-pos k (m ∷ ms) h =
    ⊎_elim
    (λ (t : same k m ≡ true). rw t)
    (λ (f : same k m ≡ false). rw f (number-pos k ms (one_more-pos (number k ms) (rw f at h))))
    (bool_cases (same k m))

-- absent, by the number, is not being in the list
pub number-absent : (k : Edge) (ms : List Edge) → eqb (number k ms) 0 ≡ not (has k ms)
number-absent k ms = at (number k ms) refl
  where
    at : (q : ℕ) → number k ms ≡ q → eqb (number k ms) 0 ≡ not (has k ms)
    at zero h = ap (λ (i : ℕ). eqb i 0) h ∙ sym (ap not (number-zero k ms h))
    at (suc q) h = ap (λ (i : ℕ). eqb i 0) h ∙ ne_eqb (suc q) 0 (λ e. omega (arith, e)) ∙ sym (ap not (number-pos k ms (omega arith)))

pub number-le : (k : Edge) (ms : List Edge) → number k ms ≤ length ms
unfolding number
number-le k [] = omega arith
number-le k (m ∷ ms) = at (same k m) (number k ms) (number-le k ms)
  where
    at : (b : Bool) (q : ℕ) → q ≤ length ms → cond b 1 (one_more q) ≤ suc (length ms)
    at true q h = omega arith
    at false zero h = omega arith
    at false (suc q) h = omega arith
