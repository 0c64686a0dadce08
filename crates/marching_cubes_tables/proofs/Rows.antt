-- Rows of one length in one flat list, and a rule of a table's rows by one test that is computed over the whole table.
use mathlib.Core.Path.{◌≡◌, sym, ◌∙◌, ap, subst}
use mathlib.Core.Bool.{Bool, true, ◌&&◌}
use mathlib.Core.List.{List, [], ◌∷◌, ◌++◌}
use Prim.Native.Nat.{ℕ, zero, suc, ◌+◌, ◌*◌, ◌<◌}
use native.Mathlib.Nat.{add-zero, zero-add, add-suc, suc-add, mul-zero, le_of_suc-le-suc, not-suc-le-zero}
use native.Mathlib.Numerals.{unary_clauses}
use native.Mathlib.Omega.{arith}
use lib.Dec.{T, eqb, eqb→eq}
use lib.ListN.{length, get_or, get_or-append}
use lib.Seq.{get_or-append-add}
use Rattle.marching_cubes_tables.specs.Tables.{flat}
use Rattle.marching_cubes_tables.proofs.Tests.{both_left, both_right}

module _ {A : Type 0} where
  -- the test passes at each entry of the list and its place, counted from i
  abbrev pub every : (ℕ → A → Bool) → ℕ → List A → Bool
  every f i [] = true
  every f i (x ∷ xs) = f i x && every f (suc i) xs

  every-from : (f : ℕ → A → Bool) (d : A) (xs : List A) (i : ℕ) → T (every f i xs) → (k : ℕ) → k < length xs → T (f (i + k) (get_or xs k d))
  every-from f d [] i t k h = absurd (not-suc-le-zero h)
  every-from f d (x ∷ xs) i t zero h = subst (λ (m : ℕ). T (f m x)) (sym (add-zero i)) (both_left (f i x) (every f (suc i) xs) t)
  every-from f d (x ∷ xs) i t (suc k) h =
      subst (λ (m : ℕ). T (f m (get_or xs k d))) (suc-add i k ∙ sym (add-suc i k))
      (every-from f d xs (suc i) (both_right (f i x) (every f (suc i) xs) t) k (le_of_suc-le-suc h))

  -- a passed test holds at each entry
  pub every-at : (f : ℕ → A → Bool) (d : A) (xs : List A) → T (every f 0 xs) → (k : ℕ) → k < length xs → T (f k (get_or xs k d))
  every-at f d xs t k h = subst (λ (m : ℕ). T (f m (get_or xs k d))) (zero-add k) (every-from f d xs 0 t k h)

  -- each row has n entries
  abbrev pub wide : ℕ → List (List A) → Bool
  wide n [] = true
  wide n (r ∷ rs) = eqb (length r) n && wide n rs

  pub flat-at : (n : ℕ) (d : A) (rs : List (List A)) → T (wide n rs) → (s k : ℕ) → s < length rs → k < n → get_or (flat rs) (n * s + k) d ≡ get_or (get_or rs s []) k d
  flat-at n d [] t s k hs hk = absurd (not-suc-le-zero hs)
  flat-at n d (r ∷ rs) t zero k hs hk =
      let e : length r ≡ n = eqb→eq (length r) n (both_left (eqb (length r) n) (wide n rs) t) in
      let i : n * zero + k ≡ k = ap (λ (m : ℕ). m + k) (mul-zero n) ∙ zero-add k in
      let h : k < length r = subst (λ (m : ℕ). k < m) (sym e) hk in
      ap (λ (m : ℕ). get_or (r ++ flat rs) m d) i ∙ get_or-append r (flat rs) d k h
  flat-at n d (r ∷ rs) t (suc s) k hs hk =
      let e : length r ≡ n = eqb→eq (length r) n (both_left (eqb (length r) n) (wide n rs) t) in
      let i : n * suc s + k ≡ length r + (n * s + k) = simp unary_clauses (omega arith) in
      ap (λ (m : ℕ). get_or (r ++ flat rs) m d) i ∙ (get_or-append-add r (flat rs) (n * s + k) d ∙ flat-at n d rs (both_right (eqb (length r) n) (wide n rs) t) s k (le_of_suc-le-suc hs) hk)
