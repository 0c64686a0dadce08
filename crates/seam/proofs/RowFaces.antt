-- The row test in the words of CR 9: on each face of a cell the net sides of its row follow from the four corner signs, and sides between edges of no
-- common face cancel within the row. The theorem rests on `row-net` itself; these say what it says.
use mathlib.Core.Path.{◌≡◌, refl, sym, ap, ◌∙◌}
use mathlib.Core.Logic.{⊎_elim}
use mathlib.Core.Bool.{Bool, true, false, cond, not, ◌||◌, and_comm, or-true, false≢true}
use mathlib.Core.List.{List, [], ◌∷◌, map}
use Prim.Native.Nat.{ℕ, zero, suc, ◌+◌, ◌<◌}
use native.Mathlib.Nat.{le_of_suc-le-suc, not-suc-le-zero}
use native.Mathlib.Omega.{arith}
use lib.Dec.{T, eqb}
use lib.ListN.{length, get_or}
use borrow.Author.Tests.{eqb-true, eq-eqb, ne_eqb, not-true}
use Rattle.marching_cubes_tables.specs.Rule.{row_edges, member}
use Rattle.walk.proofs.Bools.{bool_cases, or-none-left, or-none-right}
use Rattle.walk.proofs.Below.{all_below, all_below-at}
use Rattle.walk.proofs.SignByte.{byte}
use Rattle.seam.specs.FaceRule.{Side, Face, face, six_faces, both_of, common_face, square_sides, seen, face_sides, faces_sides, row_sides}
use Rattle.seam.proofs.Sides.{count, count-append, count-turned, between-around, count-between}
use Rattle.seam.proofs.RowTest.{sign_of, passed, row-net}

-- ---- sides between edges of no common face

module _ (p q : ℕ) where
  square-none : (sign : ℕ → Bool) (k : Face) → both_of k p q ≡ false
      → (count eqb p q (square_sides sign (λ e. e) k) ≡ 0) × (count eqb q p (square_sides sign (λ e. e) k) ≡ 0)
  unfolding both_of square_sides
  square-none sign k h =
      let l : List ℕ = k.pq ∷ k.qr ∷ k.rs ∷ k.sp ∷ [] in
      let all =
      between-around (λ e. member e l) (sign k.p) (sign k.q) (sign k.r) (sign k.s) k.pq k.qr k.rs k.sp
      (simp (eq-eqb k.pq k.pq refl)) (simp (eq-eqb k.qr k.qr refl, or-true)) (simp (eq-eqb k.rs k.rs refl, or-true))
      (simp (eq-eqb k.sp k.sp refl, or-true)) in
      (count-between (λ e. member e l) eqb eqb-true p q _ all h, count-between (λ e. member e l) eqb eqb-true q p _ all (and_comm (member q l) (member p l) ∙ h))

  seen_none : (high : Bool) (l : List (Side ℕ)) → (count eqb p q l ≡ 0) × (count eqb q p l ≡ 0)
      → (count eqb p q (seen high l) ≡ 0) × (count eqb q p (seen high l) ≡ 0)
  seen_none true l h = h
  seen_none false l h = (count-turned eqb p q l ∙ h.1, count-turned eqb q p l ∙ h.0)

  face-none : (sign : ℕ → Bool) (k : Face) → both_of k p q ≡ false
      → (count eqb p q (face_sides sign (λ e. e) k) ≡ 0) × (count eqb q p (face_sides sign (λ e. e) k) ≡ 0)
  unfolding face_sides
  face-none sign k h = seen_none k.high (square_sides sign (λ e. e) k) (square-none sign k h)

  faces-none : (sign : ℕ → Bool) (ks : List Face) → common_face ks p q ≡ false
      → (count eqb p q (faces_sides sign (λ e. e) ks) ≡ 0) × (count eqb q p (faces_sides sign (λ e. e) ks) ≡ 0)
  unfolding common_face faces_sides count
  faces-none sign [] h = (refl, refl)
  faces-none sign (k ∷ ks) h =
      let f = face-none sign k (or-none-left (both_of k p q) (common_face ks p q) h) in
      let r = faces-none sign ks (or-none-right (both_of k p q) (common_face ks p q) h) in
      let s = faces_sides sign (λ e. e) ks in
      (count-append eqb p q (face_sides sign (λ e. e) k) s ∙ rw (f.0, r.0), count-append eqb q p (face_sides sign (λ e. e) k) s ∙ rw (f.1, r.1))

-- ---- sides between edges of a face

-- at most one of the faces has both edges
abbrev shared_once : List Face → ℕ → ℕ → Bool
shared_once [] d e = true
shared_once (k ∷ ks) d e = cond (both_of k d e) (not (common_face ks d e)) (shared_once ks d e)

-- two different edges of a cell have at most one face in common
all-shared-once : T (all_below 12 (λ d. all_below 12 (λ e. eqb d e || shared_once six_faces d e)))
unfolding both_of common_face
all-shared-once = tt

abbrev no_face : Face
no_face = face true 8 8 8 8 12 12 12 12

common_face-at : (ks : List Face) (d e i : ℕ) → i < length ks → both_of (get_or ks i no_face) d e ≡ true → common_face ks d e ≡ true
unfolding common_face
common_face-at [] d e i l h = absurd (not-suc-le-zero l)
common_face-at (k ∷ ks) d e zero l h = ap (λ (t : Bool). t || common_face ks d e) h
common_face-at (k ∷ ks) d e (suc i) l h =
    ap (λ (t : Bool). both_of k d e || t) (common_face-at ks d e i (le_of_suc-le-suc l) h) ∙ or-true (both_of k d e)

-- so the sides between them are those of that face
faces-one : (sign : ℕ → Bool) (d e : ℕ) (ks : List Face) → shared_once ks d e ≡ true → (i : ℕ) → i < length ks → both_of (get_or ks i no_face) d e ≡ true
    → (count eqb d e (faces_sides sign (λ k. k) ks) ≡ count eqb d e (face_sides sign (λ k. k) (get_or ks i no_face)))
    × (count eqb e d (faces_sides sign (λ k. k) ks) ≡ count eqb e d (face_sides sign (λ k. k) (get_or ks i no_face)))
unfolding faces_sides
faces-one sign d e [] s i l h = absurd (not-suc-le-zero l)
faces-one sign d e (k ∷ ks) s zero l h =
    let n = faces-none d e sign ks (not-true (common_face ks d e) (sym (ap (λ (t : Bool). cond t (not (common_face ks d e)) (shared_once ks d e)) h) ∙ s)) in
    let f = face_sides sign (λ k. k) k in
    let r = faces_sides sign (λ k. k) ks in
    let p = count-append eqb d e f r in
    let q = count-append eqb e d f r in
    let x = n.0 in
    let y = n.1 in
    (omega arith, omega arith)
faces-one sign d e (k ∷ ks) s (suc i) l h =
    ⊎_elim
    (λ (t : both_of k d e ≡ true).
    absurd (false≢true
    (sym (not-true (common_face ks d e) (sym (ap (λ (t : Bool). cond t (not (common_face ks d e)) (shared_once ks d e)) t) ∙ s))
    ∙ common_face-at ks d e i (le_of_suc-le-suc l) h)))
    (λ (t : both_of k d e ≡ false).
    let r = faces-one sign d e ks (sym (ap (λ (t : Bool). cond t (not (common_face ks d e)) (shared_once ks d e)) t) ∙ s) i (le_of_suc-le-suc l) h in
    let n = face-none d e sign k t in
    let f = face_sides sign (λ k. k) k in
    let rest = faces_sides sign (λ k. k) ks in
    let p = count-append eqb d e f rest in
    let q = count-append eqb e d f rest in
    let x = n.0 in
    let y = n.1 in
    let u = r.0 in
    let v = r.1 in
    (omega arith, omega arith))
    (bool_cases (both_of k d e))

-- ---- the test in the words of CR 9

map_same : (l : List ℕ) → map (λ k. k) l ≡ l
map_same [] = refl
map_same (k ∷ l) = ap (λ (r : List ℕ). k ∷ r) (map_same l)

module _ (a b c d e i g h : Bool) where
  abbrev row_count : ℕ → ℕ → ℕ
  row_count p q = count eqb p q (row_sides (byte a b c d e i g h))

  net-of-row : (p q : ℕ)
      → row_count p q + count eqb q p (faces_sides (sign_of a b c d e i g h) (λ k. k) six_faces)
      ≡ row_count q p + count eqb p q (faces_sides (sign_of a b c d e i g h) (λ k. k) six_faces)
  unfolding row_sides
  net-of-row p q = rw (map_same (row_edges (byte a b c d e i g h))) at (row-net eqb (λ k. k) a b c d e i g h p q)

  -- on each face, the net sides of the row follow from the four corner signs: they are those of the face rule
  pub row-face : (face p q : ℕ) → face < 6 → p < 12 → q < 12 → (p ≡ q → ⊥) → both_of (get_or six_faces face no_face) p q ≡ true
      → row_count p q + count eqb q p (face_sides (sign_of a b c d e i g h) (λ k. k) (get_or six_faces face no_face))
      ≡ row_count q p + count eqb p q (face_sides (sign_of a b c d e i g h) (λ k. k) (get_or six_faces face no_face))
  row-face face p q hf hp hq apart both =
      let t =
      all_below-at 12 (λ e. eqb p e || shared_once six_faces p e)
      (all_below-at 12 (λ d. all_below 12 (λ e. eqb d e || shared_once six_faces d e)) all-shared-once p hp) q hq in
      let s : shared_once six_faces p q ≡ true = sym (ap (λ (t : Bool). t || shared_once six_faces p q) (ne_eqb p q apart)) ∙ passed (eqb p q || shared_once six_faces p q) t in
      let o = faces-one (sign_of a b c d e i g h) p q six_faces s face hf both in
      let x = o.0 in
      let y = o.1 in
      let z = net-of-row p q in
      omega arith

  -- and sides between edges of no common face cancel within the row
  pub row-inner : (p q : ℕ) → common_face six_faces p q ≡ false → row_count p q ≡ row_count q p
  row-inner p q s =
      let n = faces-none p q (sign_of a b c d e i g h) six_faces s in
      let x = n.0 in
      let y = n.1 in
      let z = net-of-row p q in
      omega arith
