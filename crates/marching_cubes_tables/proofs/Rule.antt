-- The rule of the triangle table at every row: one test that is computed over the 256 rows, what a passed test says, and the law that callers cite, `row-rule`.
use mathlib.Core.Path.{◌≡◌, refl, sym, ◌∙◌, ap, subst}
use mathlib.Core.Bool.{Bool, true, false, ◌&&◌, ◌||◌, beq}
use mathlib.Core.List.{List, [], ◌∷◌}
use Prim.Native.Nat.{ℕ, zero, suc, ◌+◌, ◌-◌, ◌%◌, ◌≤◌, ◌<◌}
use mathlib.Core.Logic.{◌⊎◌, inl, inr}
use native.Mathlib.Nat.{le_of_suc-le-suc, not-suc-le-zero}
use native.Mathlib.Omega.{arith}
use lib.Dec.{T, eqb, eqb→eq, leb, leb→le, ltb}
use lib.IntN.{ℤ, pos, negsuc}
use lib.ListN.{length, get_or, drop, length-drop}
use lib.Seq.{get_or-drop}
use borrow.Author.Tests.{le-ltb, ne_eqb}
use Rattle.marching_cubes_tables.specs.Tables.{edge_connection, triangle_connection, row}
use Rattle.marching_cubes_tables.specs.Rule.{named, row_edges, corners_differ, member, RowRule}
use Rattle.marching_cubes_tables.proofs.Tests.{both_left, both_right, beq-eq, lt-or-ge}
use Rattle.marching_cubes_tables.proofs.Rows.{every, every-at}

-- ---- the test

abbrev only_minus : List ℤ → Bool
only_minus [] = true
only_minus (pos n ∷ zs) = false
only_minus (negsuc zero ∷ zs) = only_minus zs
only_minus (negsuc (suc n) ∷ zs) = false

abbrev all_edges : List ℕ → Bool
all_edges [] = true
all_edges (x ∷ xs) = ltb x 12 && all_edges xs

abbrev same_as_corners : ℕ → List ℤ → ℕ → List ℕ → Bool
same_as_corners s r e ends = beq (member e (named r)) (corners_differ s e)

abbrev right : ℕ → List ℤ → Bool
right s r =
    eqb (length r) 16
    && (eqb (length (named r) % 3) 0
    && (leb (length (named r)) 15 && (only_minus (drop (length (named r)) r) && (all_edges (named r) && every (same_as_corners s r) 0 edge_connection))))

-- ---- what a passed test says

only_minus-at : (zs : List ℤ) → T (only_minus zs) → (k : ℕ) → k < length zs → get_or zs k (pos 0) ≡ negsuc 0
only_minus-at [] t k h = absurd (not-suc-le-zero h)
only_minus-at (pos n ∷ zs) t k h = absurd t
only_minus-at (negsuc (suc n) ∷ zs) t k h = absurd t
only_minus-at (negsuc zero ∷ zs) t zero h = refl
only_minus-at (negsuc zero ∷ zs) t (suc k) h = only_minus-at zs t k (le_of_suc-le-suc h)

all_edges-member : (e : ℕ) (xs : List ℕ) → T (all_edges xs) → 12 ≤ e → member e xs ≡ false
all_edges-member e [] t h = refl
all_edges-member e (x ∷ xs) t h =
    let l : x < 12 = leb→le (suc x) 12 (both_left (ltb x 12) (all_edges xs) t) in
    let n : eqb e x ≡ false = ne_eqb e x (λ q. omega (arith, q)) in
    ap (λ (b : Bool). b || member e xs) n ∙ all_edges-member e xs (both_right (ltb x 12) (all_edges xs) t) h

all_edges-at : (xs : List ℕ) → T (all_edges xs) → (k : ℕ) → k < length xs → get_or xs k 0 < 12
all_edges-at [] t k h = absurd (not-suc-le-zero h)
all_edges-at (x ∷ xs) t zero h = leb→le (suc x) 12 (both_left (ltb x 12) (all_edges xs) t)
all_edges-at (x ∷ xs) t (suc k) h = all_edges-at xs (both_right (ltb x 12) (all_edges xs) t) k (le_of_suc-le-suc h)

all_right : T (every right 0 triangle_connection)
unfolding triangle_connection edge_connection
all_right = tt

rows-length : length triangle_connection ≡ 256
unfolding triangle_connection
rows-length = refl

edges-length : length edge_connection ≡ 12
unfolding edge_connection
edges-length = refl

crossed-at : (s : ℕ) (r : List ℤ) → T (all_edges (named r)) → T (every (same_as_corners s r) 0 edge_connection) → (e : ℕ) → (e < 12) ⊎ (12 ≤ e)
    → member e (named r) ≡ corners_differ s e
crossed-at s r t u e (inl h) = beq-eq _ _ (every-at (same_as_corners s r) [] edge_connection u e (subst (λ (n : ℕ). e < n) (sym edges-length) h))
crossed-at s r t u e (inr h) = all_edges-member e (named r) t h ∙ rw (le-ltb e 12 h)

named-at : (r : List ℤ) (k : ℕ) → k < length (named r) → get_or r k (pos 0) ≡ pos (get_or (named r) k 0)
named-at [] k h = absurd (not-suc-le-zero h)
named-at (negsuc n ∷ r) k h = absurd (not-suc-le-zero h)
named-at (pos e ∷ r) zero h = refl
named-at (pos e ∷ r) (suc k) h = named-at r k (le_of_suc-le-suc h)

passed : (s : ℕ) → T (right s (row s)) → RowRule s
unfolding row_edges
passed s t =
    let r = row s in
    let n = length (named r) in
    let b1 = eqb (length r) 16 in
    let b2 = eqb (n % 3) 0 in
    let b3 = leb n 15 in
    let b4 = only_minus (drop n r) in
    let b5 = all_edges (named r) in
    let b6 = every (same_as_corners s r) 0 edge_connection in
    let t2 : T (b2 && (b3 && (b4 && (b5 && b6)))) = both_right b1 (b2 && (b3 && (b4 && (b5 && b6)))) t in
    let t3 : T (b3 && (b4 && (b5 && b6))) = both_right b2 (b3 && (b4 && (b5 && b6))) t2 in
    let t4 : T (b4 && (b5 && b6)) = both_right b3 (b4 && (b5 && b6)) t3 in
    let t5 : T (b5 && b6) = both_right b4 (b5 && b6) t4 in
    let len : length r ≡ 16 = eqb→eq (length r) 16 (both_left b1 (b2 && (b3 && (b4 && (b5 && b6)))) t) in
    record {
      sixteen = len;
      threes = eqb→eq (n % 3) 0 (both_left b2 (b3 && (b4 && (b5 && b6))) t2);
      most = leb→le n 15 (both_left b3 (b4 && (b5 && b6)) t3);
      edge = all_edges-at (named r) (both_left b5 b6 t5);
      first = named-at r;
      rest = λ k lo hi.
          let e : n + (k - n) ≡ k = omega arith in
          let h : k - n < length (drop n r) = simp length-drop (omega arith) in
          ap (λ (j : ℕ). get_or r j (pos 0)) (sym e) ∙ (sym (get_or-drop n r (k - n) (pos 0)) ∙ only_minus-at (drop n r) (both_left b4 (b5 && b6) t4) (k - n) h);
      crossed = λ e. crossed-at s r (both_left b5 b6 t5) (both_right b5 b6 t5) e (lt-or-ge e 12);
    }

-- the rule holds at every row
pub row-rule : (s : ℕ) → s < 256 → RowRule s
row-rule s h = passed s (every-at right [] triangle_connection all_right s (subst (λ (n : ℕ). s < n) (sym rows-length) h))
