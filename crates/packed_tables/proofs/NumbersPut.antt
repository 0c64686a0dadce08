-- The numbers of the edges of some triangles, put one triangle after the other: for `put_numbers`; and that edge by edge it is the same, for whoever calls
-- it to name a row.
use mathlib.Core.Path.{◌≡◌, sym, ap, ap₂, ◌∙◌}
use mathlib.Core.List.{List, [], ◌∷◌}
use Prim.Native.Nat.{ℕ, ◌+◌, ◌*◌}
use native.Mathlib.Nat.{add-zero}
use native.Mathlib.Omega.{arith}
use lib.ListN.{length, get_or, set}
use Rattle.walk.specs.Walk.{times}
use Rattle.walk.proofs.OwnedCells.{fold, times-fold}
use Rattle.packed_tables.specs.Listed.{numbers_put}
use Rattle.packed_tables.specs.Unpacked.{unpacked, triangles, edges_of}
use Rattle.packed_tables.proofs.PackedEdges.{edges-of-triangles, triangles-length}

module _ (f : ℕ → ℕ) where
  pub turn-put : (a b c i j k : ℕ) (left rest : List (ℕ × ℕ × ℕ)) (place : ℕ) (l after : List ℕ)
      → left ≡ (a, b, c) ∷ rest
      → i ≡ f a
      → j ≡ f b
      → k ≡ f c
      → after ≡ set (set (set l place i) (place + 1) j) (place + 2) k
      → numbers_put f rest (place + 3) after ≡ numbers_put f left place l
  unfolding numbers_put
  turn-put a b c i j k left rest place l after h ei ej ek e = rw (h, e, ei, ej, ek)

  pub all-put : (left : List (ℕ × ℕ × ℕ)) (place : ℕ) (l : List ℕ) → left ≡ [] → l ≡ numbers_put f left place l
  unfolding numbers_put
  all-put left place l h = rw h

  -- where `name` puts the number of an edge at the next place of what `now` has
  module _ {S : Type 0} (name : ℕ → S → S) (now : List ℕ → ℕ → S)
      (next : (e : ℕ) (l : List ℕ) (w : ℕ) → name e (now l w) ≡ now (set l w (f e)) (w + 1)) where
    one-named : (e : ℕ) (es l : List ℕ) (w : ℕ) → fold name (e ∷ es) (now l w) ≡ fold name es (now (set l w (f e)) (w + 1))
    unfolding fold
    one-named e es l w = ap (fold name es) (next e l w)

    triangles-named : (list : List (ℕ × ℕ × ℕ)) (l : List ℕ) (w : ℕ) → now (numbers_put f list w l) (w + 3 * length list) ≡ fold name (edges_of list) (now l w)
    unfolding fold edges_of numbers_put
    triangles-named [] l w = ap (now l) (add-zero w)
    triangles-named ((a, b, c) ∷ list) l w =
        let two : List ℕ = set (set l w (f a)) (w + 1) (f b) in
        let three : List ℕ = set two (w + 2) (f c) in
        let more : w + 3 * length ((a, b, c) ∷ list) ≡ w + 3 + 3 * length list = omega arith in
        let same : three ≡ set two (w + 1 + 1) (f c) = ap (λ (k : ℕ). set two k (f c)) (omega arith) in
        let grown : w + 3 ≡ w + 1 + 1 + 1 = omega arith in
        ap (now (numbers_put f list (w + 3) three)) more
        ∙ triangles-named list three (w + 3)
        ∙ ap₂ (λ (m : List ℕ) (k : ℕ). fold name (edges_of list) (now m k)) same grown
        ∙ sym
        (one-named a (b ∷ c ∷ edges_of list) l w
        ∙ one-named b (c ∷ edges_of list) (set l w (f a)) (w + 1)
        ∙ one-named c (edges_of list) two (w + 1 + 1))

    pub row-named : (count word : ℕ) (l after : List ℕ) (w reached : ℕ)
        → after ≡ numbers_put f (triangles count word) w l
        → reached ≡ w + 3 * count
        → now after reached ≡ times (length (unpacked (3 * count) word)) (λ j s. name (get_or (unpacked (3 * count) word) j 0) s) (now l w)
    row-named count word l after w reached e h =
        let es : List ℕ = unpacked (3 * count) word in
        ap₂ now e (h ∙ ap (λ (k : ℕ). w + 3 * k) (sym (triangles-length count word)))
        ∙ triangles-named (triangles count word) l w
        ∙ ap (λ (ds : List ℕ). fold name ds (now l w)) (edges-of-triangles count word)
        ∙ sym (times-fold name 0 es (now l w))
