-- Lists of directed sides: how many run from one end to another, in appended, turned and renamed lists, and where none can. It serves the row test,
-- where an end is one of twelve edges, and the sum over the cells, where it is a grid edge.
use mathlib.Core.Path.{◌≡◌, refl, sym, ap, ◌∙◌}
use mathlib.Core.Logic.{⊎_elim}
use mathlib.Core.Bool.{Bool, true, false, cond, ◌&&◌, and_comm, false≢true}
use mathlib.Core.List.{List, [], ◌∷◌, ◌++◌, map}
use Prim.Native.Nat.{ℕ, ◌+◌, ◌%◌}
use native.Mathlib.Omega.{arith}
use lib.Dec.{T}
use lib.ListN.{length}
use Rattle.walk.proofs.Bools.{bool_cases, and_left, and_right}
use Rattle.seam.specs.FaceRule.{Side, side, sides, turned, run, around, Face, square_sides, seen, face_sides, faces_sides}

-- how many of the sides run from a to b, by the test `eq`
unfoldable pub count : {A : Type 0} → (A → A → Bool) → A → A → List (Side A) → ℕ
count eq a b [] = 0
count eq a b (s ∷ l) = cond (eq s.from a && eq s.to b) 1 0 + count eq a b l

module _ {A : Type 0} (eq : A → A → Bool) (a b : A) where
  pub count-append : (l r : List (Side A)) → count eq a b (l ++ r) ≡ count eq a b l + count eq a b r
  unfolding count
  count-append [] r = omega arith
  count-append (s ∷ l) r = let h = count-append l r in omega arith

  pub count-turned : (l : List (Side A)) → count eq a b (turned l) ≡ count eq b a l
  unfolding count
  count-turned [] = refl
  count-turned (s ∷ l) =
      let h = count-turned l in
      let e : ◌≡◌ {A = ℕ} (cond (eq s.to a && eq s.from b) 1 0) (cond (eq s.from b && eq s.to a) 1 0) =
      ap (λ (t : Bool). cond t 1 0) (and_comm (eq s.to a) (eq s.from b)) in
      omega arith

-- ---- lists in threes

abbrev pub threes : {A : Type 0} → List A → Bool
threes [] = true
threes (p ∷ []) = false
threes (p ∷ q ∷ []) = false
threes (p ∷ q ∷ r ∷ l) = threes l

module _ {A : Type 0} where
  pub threes-of-length : (l : List A) → length l % 3 ≡ 0 → T (threes l)
  threes-of-length [] h = tt
  threes-of-length (p ∷ []) h = absurd (let e : 1 % 3 ≡ 0 = h in omega arith)
  threes-of-length (p ∷ q ∷ []) h = absurd (let e : 2 % 3 ≡ 0 = h in omega arith)
  threes-of-length (p ∷ q ∷ r ∷ l) h = threes-of-length l (omega arith)

  pub threes-append : (l r : List A) → T (threes l) → T (threes r) → T (threes (l ++ r))
  threes-append [] r t u = u
  threes-append (p ∷ []) r t u = absurd t
  threes-append (p ∷ q ∷ []) r t u = absurd t
  threes-append (p ∷ q ∷ s ∷ l) r t u = threes-append l r t u

  pub sides-append : (l r : List A) → T (threes l) → sides (l ++ r) ≡ sides l ++ sides r
  unfolding sides
  sides-append [] r t = refl
  sides-append (p ∷ []) r t = absurd t
  sides-append (p ∷ q ∷ []) r t = absurd t
  sides-append (p ∷ q ∷ s ∷ l) r t = ap (λ (u : List (Side A)). side p q ∷ side q s ∷ side s p ∷ u) (sides-append l r t)

-- ---- other names for the ends

module _ {A B : Type 0} (f : A → B) where
  pub threes-map : (l : List A) → T (threes l) → T (threes (map f l))
  threes-map [] t = tt
  threes-map (p ∷ []) t = t
  threes-map (p ∷ q ∷ []) t = t
  threes-map (p ∷ q ∷ r ∷ l) t = threes-map l t

  abbrev pub renamed : List (Side A) → List (Side B)
  renamed [] = []
  renamed (s ∷ l) = side (f s.from) (f s.to) ∷ renamed l

  pub renamed-append : (l r : List (Side A)) → renamed (l ++ r) ≡ renamed l ++ renamed r
  renamed-append [] r = refl
  renamed-append (s ∷ l) r = ap (λ (t : List (Side B)). side (f s.from) (f s.to) ∷ t) (renamed-append l r)

  pub renamed-turned : (l : List (Side A)) → renamed (turned l) ≡ turned (renamed l)
  renamed-turned [] = refl
  renamed-turned (s ∷ l) = ap (λ (t : List (Side B)). side (f s.to) (f s.from) ∷ t) (renamed-turned l)

  pub renamed-sides : (l : List A) → renamed (sides l) ≡ sides (map f l)
  unfolding sides
  renamed-sides [] = refl
  renamed-sides (p ∷ []) = refl
  renamed-sides (p ∷ q ∷ []) = refl
  renamed-sides (p ∷ q ∷ r ∷ l) = ap (λ (t : List (Side B)). side (f p) (f q) ∷ side (f q) (f r) ∷ side (f r) (f p) ∷ t) (renamed-sides l)

  renamed-run : (p q r s : Bool) (d e g h : A) → renamed (run p q r s d e g h) ≡ run p q r s (f d) (f e) (f g) (f h)
  unfolding run
  renamed-run true q r s d e g h = refl
  renamed-run false false r s d e g h = refl
  renamed-run false true false s d e g h = refl
  renamed-run false true true false d e g h = refl
  renamed-run false true true true d e g h = refl

  renamed-around : (p q r s : Bool) (d e g h : A) → renamed (around p q r s d e g h) ≡ around p q r s (f d) (f e) (f g) (f h)
  unfolding around
  renamed-around p q r s d e g h = simp renamed-append (simp renamed-run)

  renamed-square : (sign : ℕ → Bool) (name : ℕ → A) (k : Face) → renamed (square_sides sign name k) ≡ square_sides sign (λ e. f (name e)) k
  unfolding square_sides
  renamed-square sign name k =
      renamed-around (sign k.p) (sign k.q) (sign k.r) (sign k.s) (name k.pq) (name k.qr) (name k.rs) (name k.sp)

  renamed-seen : (high : Bool) (l : List (Side A)) → renamed (seen high l) ≡ seen high (renamed l)
  renamed-seen true l = refl
  renamed-seen false l = renamed-turned l

  renamed-face : (sign : ℕ → Bool) (name : ℕ → A) (k : Face) → renamed (face_sides sign name k) ≡ face_sides sign (λ e. f (name e)) k
  unfolding face_sides
  renamed-face sign name k = renamed-seen k.high (square_sides sign name k) ∙ ap (seen k.high) (renamed-square sign name k)

  pub renamed-faces : (sign : ℕ → Bool) (name : ℕ → A) (ks : List Face) → renamed (faces_sides sign name ks) ≡ faces_sides sign (λ e. f (name e)) ks
  unfolding faces_sides
  renamed-faces sign name [] = refl
  renamed-faces sign name (k ∷ ks) =
      renamed-append (face_sides sign name k) (faces_sides sign name ks)
      ∙ rw (renamed-face sign name k, renamed-faces sign name ks)

-- ---- sides between ends of a class: none runs between two that are not both in it

abbrev pub all_between : {A : Type 0} → (A → Bool) → List (Side A) → Bool
all_between p [] = true
all_between p (s ∷ l) = (p s.from && p s.to) && all_between p l

both : (a b : Bool) → a ≡ true → b ≡ true → (a && b) ≡ true
both true b p q = q
both false b p q = p

module _ {A : Type 0} (f : A → Bool) where
  between-append : (l r : List (Side A)) → all_between f l ≡ true → all_between f r ≡ true → all_between f (l ++ r) ≡ true
  between-append [] r a b = b
  between-append (s ∷ l) r a b =
      let c : Bool = f s.from && f s.to in
      both c (all_between f (l ++ r)) (and_left c (all_between f l) a) (between-append l r (and_right c (all_between f l) a) b)

  between_run : (a b c d : A) → f a ≡ true → f b ≡ true → f c ≡ true → f d ≡ true → (p q r s : Bool) → all_between f (run p q r s a b c d) ≡ true
  unfolding run
  between_run a b c d ha hb hc hd true q r s = refl
  between_run a b c d ha hb hc hd false false r s = refl
  between_run a b c d ha hb hc hd false true false s = simp (ha, hb)
  between_run a b c d ha hb hc hd false true true false = simp (ha, hc)
  between_run a b c d ha hb hc hd false true true true = simp (ha, hd)

  pub between-around : (p q r s : Bool) (a b c d : A) → f a ≡ true → f b ≡ true → f c ≡ true → f d ≡ true
      → all_between f (around p q r s a b c d) ≡ true
  unfolding around
  between-around p q r s a b c d ha hb hc hd =
      between-append (run s p q r d a b c) _ (between_run d a b c hd ha hb hc s p q r)
      (between-append (run p q r s a b c d) _ (between_run a b c d ha hb hc hd p q r s)
      (between-append (run q r s p b c d a) _ (between_run b c d a hb hc hd ha q r s p) (between_run c d a b hc hd ha hb r s p q)))

  pub count-between : (eq : A → A → Bool) → ((a b : A) → eq a b ≡ true → a ≡ b) → (a b : A) (l : List (Side A)) → all_between f l ≡ true
      → (f a && f b) ≡ false → count eq a b l ≡ 0
  unfolding count
  count-between eq sure a b [] h e = refl
  count-between eq sure a b (s ∷ l) h e =
      let c : Bool = f s.from && f s.to in
      let r = count-between eq sure a b l (and_right c (all_between f l) h) e in
      let t : Bool = eq s.from a && eq s.to b in
      ⊎_elim
      (λ (u : t ≡ true).
      let p : s.from ≡ a = sure s.from a (and_left (eq s.from a) (eq s.to b) u) in
      let q : s.to ≡ b = sure s.to b (and_right (eq s.from a) (eq s.to b) u) in
      absurd (false≢true (sym e ∙ ap (λ (o : A). f o && f b) (sym p) ∙ ap (λ (o : A). f s.from && f o) (sym q) ∙ and_left c (all_between f l) h)))
      (λ (u : t ≡ false). ap (λ (o : Bool). cond o 1 0 + count eq a b l) u ∙ omega arith)
      (bool_cases t)
