-- The new edges of a row once more, in a form that computes fast: the row without repetitions, then those that are new.
use mathlib.Core.Path.{◌≡◌, refl, sym, ap, ◌∙◌}
use mathlib.Core.Bool.{Bool, true, false, not, ◌&&◌, ◌||◌, and-true}
use mathlib.Core.List.{List, [], ◌∷◌}
use Prim.Native.Nat.{ℕ}
use lib.Dec.{eqb}
use borrow.Author.Tests.{eqb-true}
use Rattle.marching_cubes_tables.specs.Rule.{member}
use Rattle.walk.specs.Ownership.{new_edges}

abbrev before : Bool → ℕ → List ℕ → List ℕ
before true e l = e ∷ l
before false e l = l

-- the entries that are not among those seen, each where it first stands
abbrev pub first_named : List ℕ → List ℕ → List ℕ
first_named seen [] = []
first_named seen (e ∷ r) = before (not (member e seen)) e (first_named (e ∷ seen) r)

-- those that pass
abbrev pub kept : (ℕ → Bool) → List ℕ → List ℕ
kept new [] = []
kept new (e ∷ r) = before (new e) e (kept new r)

new_edges-ext : (new old : ℕ → Bool) (r : List ℕ) → ((d : ℕ) → new d ≡ old d) → new_edges new r ≡ new_edges old r
unfolding new_edges
new_edges-ext new old [] h = refl
new_edges-ext new old (e ∷ r) h =
    rw (h e, new_edges-ext new old r h, new_edges-ext (λ d. new d && not (eqb d e)) (λ d. old d && not (eqb d e)) r (λ d. ap (λ (b : Bool). b && not (eqb d e)) (h d)))

-- an entry that is taken is seen, and one that is not taken can as well be
taken : (n m q : Bool) → ((n && not m) && not q) ≡ (n && not (q || m))
taken true true true = refl
taken true true false = refl
taken true false true = refl
taken true false false = refl
taken false m q = refl

module _ (new : ℕ → Bool) where
  abbrev unseen : List ℕ → ℕ → Bool
  unseen seen d = new d && not (member d seen)

  passed : (seen : List ℕ) (e : ℕ) (r : List ℕ) → ((d : ℕ) → eqb d e ≡ true → unseen seen d ≡ false)
      → new_edges (unseen seen) r ≡ new_edges (unseen (e ∷ seen)) r
  passed seen e r same =
      new_edges-ext (unseen seen) (unseen (e ∷ seen)) r (λ d. agree (new d) (member d seen) (eqb d e) (same d))
    where
      agree : (n m q : Bool) → (q ≡ true → (n && not m) ≡ false) → (n && not m) ≡ (n && not (q || m))
      agree true true true f = refl
      agree true false true f = f refl
      agree n true false f = refl
      agree n false false f = refl
      agree false true true f = refl
      agree false false true f = refl

  -- by whether the first entry is new and whether it was seen
  first_entry : (e : ℕ) (seen r : List ℕ) (n m : Bool) → new e ≡ n → member e seen ≡ m → new_edges (unseen (e ∷ seen)) r ≡ kept new (first_named (e ∷ seen) r)
      → new_edges (unseen seen) (e ∷ r) ≡ kept new (first_named seen (e ∷ r))
  unfolding new_edges
  first_entry e seen r true false hn hm h =
      rw (hn, hm) (rw hn (ap (λ (l : List ℕ). e ∷ l)
      (new_edges-ext (λ d. unseen seen d && not (eqb d e)) (unseen (e ∷ seen)) r (λ d. taken (new d) (member d seen) (eqb d e)) ∙ h)))
  first_entry e seen r false false hn hm h =
      let none : unseen seen e ≡ false = rw hn in
      rw (hn, hm) (rw hn (passed seen e r (λ d q. ap (unseen seen) (eqb-true d e q) ∙ none) ∙ h))
  first_entry e seen r true true hn hm h =
      let none : unseen seen e ≡ false = rw (hn, hm) in
      rw (hn, hm) (passed seen e r (λ d q. ap (unseen seen) (eqb-true d e q) ∙ none) ∙ h)
  first_entry e seen r false true hn hm h =
      let none : unseen seen e ≡ false = rw hn in
      rw (hn, hm) (passed seen e r (λ d q. ap (unseen seen) (eqb-true d e q) ∙ none) ∙ h)

  kept-first_named : (r seen : List ℕ) → new_edges (unseen seen) r ≡ kept new (first_named seen r)
  unfolding new_edges
  kept-first_named [] seen = refl
  kept-first_named (e ∷ r) seen = first_entry e seen r (new e) (member e seen) refl refl (kept-first_named r (e ∷ seen))

  pub new_edges-first_named : (r : List ℕ) → new_edges new r ≡ kept new (first_named [] r)
  new_edges-first_named r = new_edges-ext new (unseen []) r (λ d. sym (and-true (new d))) ∙ kept-first_named r []
