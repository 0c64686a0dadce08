-- A triangle has a side at most once between two different vertices, so the triangles with a side are counted by the sides.
use mathlib.Core.Path.{◌≡◌, refl, sym, ap, ◌∙◌}
use mathlib.Core.Logic.{⊎_elim}
use mathlib.Core.Bool.{Bool, true, false, cond, ◌&&◌, ◌||◌, false≢true}
use mathlib.Core.List.{List, [], ◌∷◌}
use Prim.Native.Nat.{ℕ, ◌+◌}
use native.Mathlib.Omega.{arith}
use lib.Dec.{T, eqb, eqb→eq}
use borrow.Author.Tests.{eqb-true, eqb-false}
use Rattle.walk.proofs.Bools.{bool_cases, and_left, and_right, not-of}
use Rattle.walk.proofs.EightSigns.{all_two, all_four, all_two-at, all_four-at}
use Rattle.seam.specs.Seam.{has_side, triangles_with}
use Rattle.seam.specs.FaceRule.{sides}
use Rattle.seam.proofs.Sides.{count}

-- the corners p, q, r against a and b: where none is both, a triangle with the side has it once
abbrev once : Bool → Bool → Bool → Bool → Bool → Bool → Bool
once pa pb qa qb ra rb =
    ((pa && pb) || ((qa && qb) || (ra && rb)))
    || eqb (cond ((pa && qb) || ((qa && rb) || (ra && pb))) 1 0) (cond (pa && qb) 1 0 + (cond (qa && rb) 1 0 + cond (ra && pb) 1 0))

all_once : T (all_four (λ pa pb qa qb. all_two (once pa pb qa qb)))
all_once = tt

settled : (a b : Bool) → T (a || b) → a ≡ false → T b
settled true b t h = absurd (false≢true (sym h))
settled false b t h = t

module _ (a b : ℕ) (apart : a ≡ b → ⊥) where
  not-both : (p : ℕ) → (eqb p a && eqb p b) ≡ false
  not-both p =
      not-of (eqb p a && eqb p b)
      (λ t. apart (sym (eqb-true p a (and_left (eqb p a) (eqb p b) t)) ∙ eqb-true p b (and_right (eqb p a) (eqb p b) t)))

  triangle : (p q r : ℕ)
      → cond (has_side a b p q r) 1 0 ≡ cond (eqb p a && eqb q b) 1 0 + (cond (eqb q a && eqb r b) 1 0 + cond (eqb r a && eqb p b) 1 0)
  unfolding has_side
  triangle p q r =
      let all =
      all_two-at (once (eqb p a) (eqb p b) (eqb q a) (eqb q b))
      (all_four-at (λ pa pb qa qb. all_two (once pa pb qa qb)) all_once (eqb p a) (eqb p b) (eqb q a) (eqb q b)) (eqb r a) (eqb r b) in
      let none : ((eqb p a && eqb p b) || ((eqb q a && eqb q b) || (eqb r a && eqb r b))) ≡ false = simp (not-both p, not-both q, not-both r) in
      eqb→eq _ _ (settled ((eqb p a && eqb p b) || ((eqb q a && eqb q b) || (eqb r a && eqb r b))) _ all none)

  pub triangles-sides : (l : List ℕ) → triangles_with a b l ≡ count eqb a b (sides l)
  unfolding triangles_with count sides
  triangles-sides [] = refl
  triangles-sides (p ∷ []) = refl
  triangles-sides (p ∷ q ∷ []) = refl
  triangles-sides (p ∷ q ∷ r ∷ l) = let t = triangle p q r in let u = triangles-sides l in omega arith

-- so it is enough to know of the sides; a vertex and itself are no question
pub triangles-balanced : (i j : ℕ) (l : List ℕ) → count eqb i j (sides l) ≡ count eqb j i (sides l) → triangles_with i j l ≡ triangles_with j i l
triangles-balanced i j l h =
    ⊎_elim
    (λ (t : eqb i j ≡ true).
    let e : i ≡ j = eqb-true i j t in
    ap (λ (k : ℕ). triangles_with k j l) e ∙ ap (λ (k : ℕ). triangles_with j k l) (sym e))
    (λ (f : eqb i j ≡ false).
    let apart = eqb-false i j f in
    triangles-sides i j apart l ∙ h ∙ sym (triangles-sides j i (λ e. apart (sym e)) l))
    (bool_cases (eqb i j))
