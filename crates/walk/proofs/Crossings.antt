-- The vertices of the joined numbering are the grid edges of the box that the surface crosses, each once; so V is their number.
use mathlib.Core.Path.{◌≡◌, refl, sym, ap, ◌∙◌, subst}
use mathlib.Core.Logic.{⊎_elim}
use mathlib.Core.Bool.{Bool, true, false, cond, ◌&&◌, ◌||◌, not, or-true, or_assoc, or-false, false≢true}
use mathlib.Core.List.{List, [], ◌∷◌, ◌++◌, map}
use Prim.Native.Nat.{ℕ, zero, suc, ◌+◌, ◌<◌, ◌≤◌}
use native.Mathlib.Nat.{le_refl, le_step, not-suc-le-zero}
use native.Mathlib.Decide.{dec_lt}
use native.Mathlib.Omega.{arith}
use lib.ListN.{length, length-map}
use borrow.Author.Tests.{not-true}
use Rattle.walk.specs.Walk.{Visit, Inside}
use Rattle.walk.specs.Edges.{Edge, edge_of, crosses, in_box, same, has, distinct, spread, crossing_at, crossings}
use Rattle.walk.specs.Numbering.{mesh, joined}
use Rattle.walk.proofs.Bools.{bool_cases, and_left, and_right, or_split, not-of, iff-eq}
use Rattle.walk.proofs.GridEdges.{edge_at, same_true, same_refl, in_box-says, in_box-of}
use Rattle.walk.proofs.Ownership.{met-end, met_all}

-- ---- what is made

module _ (g : Inside) (n layers : ℕ) where
  pub made-once : distinct (map edge_of (mesh joined [] g n layers).made) ≡ true
  made-once = let i = met-end g n layers in rw i.edges i.once

  pub made-exactly : 2 ≤ n → 1 ≤ layers → (k : Edge)
      → has k (map edge_of (mesh joined [] g n layers).made) ≡ (in_box n layers k && crosses g k)
  made-exactly p q k =
      let i = met-end g n layers in
      let m : List Edge = (mesh joined [] g n layers).memory in
      ap (has k) i.edges
      ∙ iff-eq (has k m) (in_box n layers k && crosses g k)
      (λ h. let b = i.boxed k h in rw (in_box-of n layers k b) (sym (met_all g n layers p q k b) ∙ sym (i.known k b) ∙ h))
      (λ h.
      let b = in_box-says n layers k (and_left (in_box n layers k) (crosses g k) h) in
      i.known k b ∙ met_all g n layers p q k b ∙ and_right (in_box n layers k) (crosses g k) h)

-- ---- two lists without repetition that have the same edges are equally long

without : Edge → List Edge → List Edge
without k [] = []
without k (m ∷ ms) = cond (same k m) ms (m ∷ without k ms)

without-length : (k : Edge) (ms : List Edge) → has k ms ≡ true → length ms ≡ suc (length (without k ms))
unfolding without has
without-length k [] h = absurd (false≢true h)
without-length k (m ∷ ms) h =
    ⊎_elim
    (λ (t : same k m ≡ true). rw t)
    (λ (f : same k m ≡ false).
    ap suc (without-length k ms (sym (ap (λ (b : Bool). b || has k ms) f) ∙ h)) ∙ sym (ap (λ (b : Bool). suc (length (cond b ms (m ∷ without k ms)))) f))
    (bool_cases (same k m))

without-has : (k x : Edge) (ms : List Edge) → same k x ≡ false → has k ms ≡ true → has k (without x ms) ≡ true
unfolding without has
without-has k x [] d h = h
without-has k x (m ∷ ms) d h =
    ⊎_elim
    (λ (t : same x m ≡ true).
    ap (λ (b : Bool). has k (cond b ms (m ∷ without x ms))) t ∙ sym (ap (λ (b : Bool). b || has k ms) (ap (same k) (sym (same_true x m t)) ∙ d)) ∙ h)
    (λ (f : same x m ≡ false).
    ap (λ (b : Bool). has k (cond b ms (m ∷ without x ms))) f
    ∙ ⊎_elim
    (λ t. ap (λ (b : Bool). b || has k (without x ms)) t)
    (λ t. ap (λ (b : Bool). same k m || b) (without-has k x ms d t) ∙ or-true (same k m))
    (or_split (same k m) (has k ms) h))
    (bool_cases (same x m))

no_longer : (ks ms : List Edge) → distinct ks ≡ true → ((k : Edge) → has k ks ≡ true → has k ms ≡ true) → length ks ≤ length ms
unfolding distinct has
no_longer [] ms d h = omega arith
no_longer (x ∷ ks) ms d h =
    let u : has x ks ≡ false = not-true (has x ks) (and_left (not (has x ks)) (distinct ks) d) in
    let e = without-length x ms (h x (ap (λ (b : Bool). b || has x ks) (same_refl x))) in
    let r =
    no_longer ks (without x ms) (and_right (not (has x ks)) (distinct ks) d)
    (λ k t.
    without-has k x ms (not-of (same k x) (λ s. false≢true (sym u ∙ ap (λ (o : Edge). has o ks) (sym (same_true k x s)) ∙ t)))
    (h k (ap (λ (b : Bool). same k x || b) t ∙ or-true (same k x)))) in
    omega arith

pub same_length : (ks ms : List Edge) → distinct ks ≡ true → distinct ms ≡ true → ((k : Edge) → has k ks ≡ has k ms) → length ks ≡ length ms
same_length ks ms d e h =
    let a = no_longer ks ms d (λ k t. sym (h k) ∙ t) in
    let b = no_longer ms ks e (λ k t. h k ∙ t) in
    omega arith

-- ---- the list of crossings

has-append : (k : Edge) (l r : List Edge) → has k (l ++ r) ≡ (has k l || has k r)
unfolding has
has-append k [] r = refl
has-append k (m ∷ l) r = ap (λ (b : Bool). same k m || b) (has-append k l r) ∙ sym (or_assoc (same k m) (has k l) (has k r))

-- lists with no edge in common
Apart : List Edge → List Edge → Type 0
Apart l r = (k : Edge) → has k l ≡ true → has k r ≡ true → ⊥

distinct_append : (l r : List Edge) → distinct l ≡ true → distinct r ≡ true → Apart l r → distinct (l ++ r) ≡ true
unfolding distinct has Apart
distinct_append [] r p q a = q
distinct_append (m ∷ l) r p q a =
    let h : has m l ≡ false = not-true (has m l) (and_left (not (has m l)) (distinct l) p) in
    let i : has m r ≡ false = not-of (has m r) (λ t. a m (ap (λ (b : Bool). b || has m l) (same_refl m)) t) in
    let j : has m (l ++ r) ≡ false = has-append m l r ∙ ap (λ (b : Bool). b || has m r) h ∙ i in
    ap (λ (b : Bool). not b && distinct (l ++ r)) j
    ∙ distinct_append l r (and_right (not (has m l)) (distinct l) p) q (λ k x y. a k (ap (λ (b : Bool). same k m || b) x ∙ or-true (same k m)) y)

spread-says : (c : ℕ) (f : ℕ → List Edge) (k : Edge) → has k (spread c f) ≡ true → (i : ℕ) × (i < c) × (has k (f i) ≡ true)
unfolding spread has
spread-says zero f k h = absurd (false≢true h)
spread-says (suc c) f k h =
    ⊎_elim
    (λ t. let r = spread-says c f k t in (r.0, le_step r.1, r.2))
    (λ t. (c, le_refl (suc c), t))
    (or_split (has k (spread c f)) (has k (f c)) (sym (has-append k (spread c f) (f c)) ∙ h))

spread-has : (c : ℕ) (f : ℕ → List Edge) (k : Edge) (i : ℕ) → i < c → has k (f i) ≡ true → has k (spread c f) ≡ true
unfolding spread
spread-has zero f k i l h = absurd (not-suc-le-zero l)
spread-has (suc c) f k i l h =
    has-append k (spread c f) (f c)
    ∙ elim (dec_lt i c) [
      | yes a ↦ ap (λ (b : Bool). b || has k (f c)) (spread-has c f k i a h)
      | no a ↦
          let e : i ≡ c = omega arith in
          ap (λ (b : Bool). has k (spread c f) || b) (subst (λ (o : ℕ). has k (f o) ≡ true) e h) ∙ or-true (has k (spread c f))
    ]

-- parts that a key tells apart
spread-distinct : (key : Edge → ℕ) (c : ℕ) (f : ℕ → List Edge) → ((i : ℕ) → distinct (f i) ≡ true)
    → ((i : ℕ) (k : Edge) → has k (f i) ≡ true → key k ≡ i)
    → distinct (spread c f) ≡ true
unfolding spread distinct Apart
spread-distinct key zero f d e = refl
spread-distinct key (suc c) f d e =
    distinct_append (spread c f) (f c) (spread-distinct key c f d e) (d c)
    (λ k x y. let r = spread-says c f k x in let l = r.1 in let a = e r.0 k r.2 in let b = e c k y in omega arith)

module _ (g : Inside) (n layers : ℕ) where
  at-says : (m k : Edge) → has k (crossing_at g n layers m) ≡ true → (k ≡ m) × ((in_box n layers m && crosses g m) ≡ true)
  unfolding crossing_at has
  at-says m k h = go (in_box n layers m && crosses g m) h
    where
      go : (b : Bool) → has k (cond b (m ∷ []) []) ≡ true → (k ≡ m) × (b ≡ true)
      go true h = (same_true k m (sym (or-false (same k m)) ∙ h), refl)
      go false h = absurd (false≢true h)

  at-distinct : (m : Edge) → distinct (crossing_at g n layers m) ≡ true
  unfolding crossing_at distinct has
  at-distinct m = go (in_box n layers m && crosses g m)
    where
      go : (b : Bool) → distinct (cond b (m ∷ []) []) ≡ true
      go true = refl
      go false = refl

  abbrev along_x : ℕ → ℕ → ℕ → List Edge
  along_x i z y = spread n (λ x. crossing_at g n layers (edge_at i x y z))

  abbrev along_y : ℕ → ℕ → List Edge
  along_y i z = spread n (along_x i z)

  abbrev along_z : ℕ → List Edge
  along_z i = spread (layers + 1) (along_y i)

  record Found (i z y : ℕ) (k : Edge) : Type 0 where
    axis : k.axis ≡ i
    on-z : k.z ≡ z
    on-y : k.y ≡ y
    whole : (in_box n layers k && crosses g k) ≡ true

  x-says : (i z y : ℕ) (k : Edge) → has k (along_x i z y) ≡ true → Found i z y k
  x-says i z y k h =
      let c = spread-says n (λ x. crossing_at g n layers (edge_at i x y z)) k h in
      let e = at-says (edge_at i c.0 y z) k c.2 in
      let q : k ≡ edge_at i c.0 y z = e.0 in
      record {
        axis = ap (λ (o : Edge). o.axis) q;
        on-z = ap (λ (o : Edge). o.z) q;
        on-y = ap (λ (o : Edge). o.y) q;
        whole = ap (λ (o : Edge). in_box n layers o && crosses g o) q ∙ e.1;
      }

  y-says : (i z : ℕ) (k : Edge) → has k (along_y i z) ≡ true → (y : ℕ) × Found i z y k
  y-says i z k h = let c = spread-says n (along_x i z) k h in (c.0, x-says i z c.0 k c.2)

  z-says : (i : ℕ) (k : Edge) → has k (along_z i) ≡ true → (z : ℕ) × (y : ℕ) × Found i z y k
  z-says i k h = let c = spread-says (layers + 1) (along_y i) k h in let d = y-says i c.0 k c.2 in (c.0, d.0, d.1)

  pub crossings-once : distinct (crossings g n layers) ≡ true
  unfolding crossings
  crossings-once =
      spread-distinct (λ k. k.axis) 3 along_z
      (λ i. spread-distinct (λ k. k.z) (layers + 1) (along_y i)
      (λ z. spread-distinct (λ k. k.y) n (along_x i z)
      (λ y. spread-distinct (λ k. k.x) n (λ x. crossing_at g n layers (edge_at i x y z)) (λ x. at-distinct (edge_at i x y z))
      (λ x k h. ap (λ (o : Edge). o.x) (at-says (edge_at i x y z) k h).0))
      (λ y k h. (x-says i z y k h).on-y))
      (λ z k h. (y-says i z k h).1.on-z))
      (λ i k h. (z-says i k h).2.axis)

  pub crossings-exactly : (k : Edge) → has k (crossings g n layers) ≡ (in_box n layers k && crosses g k)
  unfolding crossings crossing_at has
  crossings-exactly k =
      iff-eq (has k (crossings g n layers)) (in_box n layers k && crosses g k)
      (λ h. let a = spread-says 3 along_z k h in (z-says a.0 k a.2).2.whole)
      (λ h.
      let b = in_box-says n layers k (and_left (in_box n layers k) (crosses g k) h) in
      let bx = b.x_lt in
      let by = b.y-lt in
      let bz = b.z-le in
      spread-has 3 along_z k k.axis b.axis-lt
      (spread-has (layers + 1) (along_y k.axis) k k.z (omega arith)
      (spread-has n (along_x k.axis k.z) k k.y (omega arith)
      (spread-has n (λ x. crossing_at g n layers (edge_at k.axis x k.y k.z)) k k.x (omega arith)
      (ap (λ (t : Bool). has k (cond t (k ∷ []) [])) h ∙ ap (λ (t : Bool). t || false) (same_refl k))))))

-- V is the number of grid edges of the box that the surface crosses
pub made-count : (g : Inside) (n layers : ℕ) → 2 ≤ n → 1 ≤ layers → length (mesh joined [] g n layers).made ≡ length (crossings g n layers)
made-count g n layers p q =
    let m : List Visit = (mesh joined [] g n layers).made in
    sym (length-map m edge_of)
    ∙ same_length (map edge_of m) (crossings g n layers) (made-once g n layers) (crossings-once g n layers)
    (λ k. made-exactly g n layers p q k ∙ sym (crossings-exactly g n layers k))
