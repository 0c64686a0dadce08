-- A property of every entry of a list, by place, and one entry more at the end.
use mathlib.Core.Path.{◌≡◌, sym, subst}
use mathlib.Core.List.{List, [], ◌∷◌, ◌++◌}
use Prim.Native.Nat.{ℕ, ◌+◌, ◌<◌}
use native.Mathlib.Decide.{dec_lt}
use native.Mathlib.Omega.{arith}
use lib.ListN.{length, get_or, length-append, get_or-append}
use lib.Seq.{get_or-append_seam}

module _ {A : Type 0} where
  -- d stands past the end
  abbrev pub Each : (A → Type 0) → A → List A → Type 0
  Each Q d l = (i : ℕ) → i < length l → Q (get_or l i d)

  pub length-snoc : (l : List A) (a : A) → length (l ++ (a ∷ [])) ≡ length l + 1
  length-snoc l a = length-append l (a ∷ [])

  pub each_snoc : (Q : A → Type 0) (d : A) (l : List A) (a : A) → Each Q d l → Q a → Each Q d (l ++ (a ∷ []))
  each_snoc Q d l a e q i h =
      let n = length-snoc l a in
      elim (dec_lt i (length l)) [
        | yes p ↦ subst Q (sym (get_or-append l (a ∷ []) d i p)) (e i p)
        | no p ↦
            let j : length l ≡ i = omega arith in
            subst (λ (k : ℕ). Q (get_or (l ++ (a ∷ [])) k d)) j (subst Q (sym (get_or-append_seam l a [] d)) q)
      ]
