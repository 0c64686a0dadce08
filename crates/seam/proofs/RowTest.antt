-- CR 9's one test over all 256 rows, computed: the sides of a row, less those that its corner signs put on the six faces, pair off, each with one
-- that runs back. Under any names for the edges, then, the net sides of the row are those of the faces.
use mathlib.Core.Path.{◌≡◌, refl, sym, ap, ◌∙◌}
use mathlib.Core.Logic.{⊎_elim}
use mathlib.Core.Bool.{Bool, true, false, cond, ◌&&◌, ◌||◌, and_comm, false≢true}
use mathlib.Core.List.{List, [], ◌∷◌, ◌++◌, map}
use Prim.Native.Nat.{ℕ, zero, suc, ◌+◌}
use native.Mathlib.Omega.{arith}
use lib.Dec.{T, eqb}
use lib.ListN.{length, get_or}
use borrow.Author.Tests.{eqb-true}
use Rattle.marching_cubes_tables.specs.Tables.{triangle_connection}
use Rattle.marching_cubes_tables.specs.Rule.{row_edges}
use Rattle.marching_cubes_tables.proofs.Tests.{both_left, both_right}
use Rattle.walk.proofs.Bools.{bool_cases, and_left, and_right}
use Rattle.walk.proofs.SignByte.{byte}
use Rattle.walk.proofs.EightSigns.{all_eight, all_eight-at}
use Rattle.seam.specs.FaceRule.{Side, sides, turned, run, around, six_faces, square_sides, face_sides, faces_sides, row_sides}
use Rattle.seam.proofs.Sides.{count, count-append, count-turned, renamed, renamed-append, renamed-turned, renamed-sides, renamed-faces}

-- ---- the test

abbrev runs : ℕ → ℕ → Side ℕ → Bool
runs p q s = eqb s.from p && eqb s.to q

abbrev found : ℕ → ℕ → List (Side ℕ) → Bool
found p q [] = false
found p q (s ∷ l) = runs p q s || found p q l

abbrev without : ℕ → ℕ → List (Side ℕ) → List (Side ℕ)
without p q [] = []
without p q (s ∷ l) = cond (runs p q s) l (s ∷ without p q l)

-- the first side has one that runs back, and so has each of the others; at most k of them are asked
abbrev pairs : ℕ → List (Side ℕ) → Bool
pairs zero [] = true
pairs zero (s ∷ l) = false
pairs (suc k) [] = true
pairs (suc k) (s ∷ l) = found s.to s.from l && pairs k (without s.to s.from l)

abbrev pub pair_off : List (Side ℕ) → Bool
pair_off l = pairs (length l) l

-- the sign of each corner
abbrev pub sign_of : Bool → Bool → Bool → Bool → Bool → Bool → Bool → Bool → ℕ → Bool
sign_of a b c d e i g h k = get_or (a ∷ b ∷ c ∷ d ∷ e ∷ i ∷ g ∷ h ∷ []) k false

-- the sides of the row, and those of the faces turned round
abbrev pub row_and_faces : Bool → Bool → Bool → Bool → Bool → Bool → Bool → Bool → List (Side ℕ)
row_and_faces a b c d e i g h = row_sides (byte a b c d e i g h) ++ turned (faces_sides (sign_of a b c d e i g h) (λ k. k) six_faces)

abbrev pub row_closes : Bool → Bool → Bool → Bool → Bool → Bool → Bool → Bool → Bool
row_closes a b c d e i g h = pair_off (row_and_faces a b c d e i g h)

pub all-rows-close : T (all_eight row_closes)
unfolding row_sides row_edges triangle_connection sides around run square_sides face_sides faces_sides
all-rows-close = tt

pub passed : (b : Bool) → T b → b ≡ true
passed true t = refl
passed false t = absurd t

-- ---- what a passed test says: under any names for the edges, as many sides run from a to b as from b to a

module _ {B : Type 0} (eq : B → B → Bool) (f : ℕ → B) where
  one : B → B → ℕ → ℕ → ℕ
  one a b p q = cond (eq (f p) a && eq (f q) b) 1 0

  one-turned : (a b : B) (p q : ℕ) → one a b p q ≡ one b a q p
  unfolding one
  one-turned a b p q = ap (λ (t : Bool). cond t 1 0) (and_comm (eq (f p) a) (eq (f q) b))

  count-without : (a b : B) (p q : ℕ) (l : List (Side ℕ)) → found p q l ≡ true
      → count eq a b (renamed f l) ≡ one a b p q + count eq a b (renamed f (without p q l))
  unfolding count one
  count-without a b p q [] h = absurd (false≢true h)
  count-without a b p q (s ∷ l) h =
      ⊎_elim
      (λ (t : runs p q s ≡ true).
      let u : s.from ≡ p = eqb-true s.from p (and_left (eqb s.from p) (eqb s.to q) t) in
      let v : s.to ≡ q = eqb-true s.to q (and_right (eqb s.from p) (eqb s.to q) t) in
      rw (t, u, v))
      (λ (t : runs p q s ≡ false).
      let k : found p q l ≡ true = sym (ap (λ (b : Bool). b || found p q l) t) ∙ h in
      let r = count-without a b p q l k in
      rw t (omega arith))
      (bool_cases (runs p q s))

  count-pairs : (a b : B) (k : ℕ) (l : List (Side ℕ)) → T (pairs k l) → count eq a b (renamed f l) ≡ count eq b a (renamed f l)
  unfolding count one
  count-pairs a b zero [] t = refl
  count-pairs a b zero (s ∷ l) t = absurd t
  count-pairs a b (suc k) [] t = refl
  count-pairs a b (suc k) (s ∷ l) t =
      let p : ℕ = s.from in
      let q : ℕ = s.to in
      let h : found q p l ≡ true = passed (found q p l) (both_left (found q p l) (pairs k (without q p l)) t) in
      let r = count-pairs a b k (without q p l) (both_right (found q p l) (pairs k (without q p l)) t) in
      let u = count-without a b q p l h in
      let v = count-without b a q p l h in
      let x = one-turned a b p q in
      let y = one-turned a b q p in
      omega arith

  -- where l and r turned round pair off, their net sides are the same
  net : (l r : List (Side ℕ)) → T (pair_off (l ++ turned r)) → (m n : B)
      → count eq m n (renamed f l) + count eq n m (renamed f r) ≡ count eq n m (renamed f l) + count eq m n (renamed f r)
  net l r t m n = sym (split m n) ∙ count-pairs m n (length (l ++ turned r)) (l ++ turned r) t ∙ split n m
    where
      split : (p q : B) → count eq p q (renamed f (l ++ turned r)) ≡ count eq p q (renamed f l) + count eq q p (renamed f r)
      split p q =
          ap (count eq p q) (renamed-append f l (turned r))
          ∙ count-append eq p q (renamed f l) (renamed f (turned r))
          ∙ ap (λ (k : ℕ). count eq p q (renamed f l) + k) (ap (count eq p q) (renamed-turned f r) ∙ count-turned eq p q (renamed f r))

  -- the net sides of a row are those of the faces
  pub row-net : (a b c d e i g h : Bool) (m n : B)
      → count eq m n (sides (map f (row_edges (byte a b c d e i g h)))) + count eq n m (faces_sides (sign_of a b c d e i g h) f six_faces)
      ≡ count eq n m (sides (map f (row_edges (byte a b c d e i g h)))) + count eq m n (faces_sides (sign_of a b c d e i g h) f six_faces)
  unfolding row_sides
  row-net a b c d e i g h m n =
      let row = row_edges (byte a b c d e i g h) in
      let faces = faces_sides (sign_of a b c d e i g h) (λ k. k) six_faces in
      let t = net (sides row) faces (all_eight-at row_closes all-rows-close a b c d e i g h) m n in
      rw (renamed-sides f row, renamed-faces f (sign_of a b c d e i g h) (λ k. k) six_faces) at t
