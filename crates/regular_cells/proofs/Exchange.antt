-- Two edges of a cell that get different numbers may get them in either order: they are put into different words of the cache, and their vertices stand
-- in different places.
use mathlib.Core.Path.{◌≡◌, refl, sym, ap, ap₂, ◌∙◌}
use mathlib.Core.Bool.{Bool, true, false, cond, not, ◌&&◌, false≢true}
use mathlib.Core.List.{List}
use Prim.Native.Nat.{ℕ, zero, suc, ◌+◌, ◌-◌, ◌*◌, ◌/◌, ◌%◌, ◌≤◌, ◌<◌}
use native.Mathlib.Omega.{arith}
use lib.Dec.{T, eqb, leb, ltb}
use lib.ListN.{set}
use lib.Seq.{set_comm}
use lib.Ieee.{Float}
use borrow.Author.Tests.{eqb-true, eqb-false, leb-true}
use Rattle.marching_cubes_tables.proofs.Tests.{both_left, both_right}
use Rattle.walk.specs.Cache.{in_layer, put_column}
use Rattle.walk.proofs.Bools.{and_left, and_right}
use Rattle.walk.proofs.Rank.{place-lt}
use Rattle.walk_models.specs.Lent.{Lent}
use Rattle.walk_models.specs.Owned.{edge_visit}
use Rattle.walk_models.specs.CacheMemory.{CacheMemory, layer_place, row_place, put_layer, put_row, put_memory}
use Rattle.walk_models.proofs.AnyOrder.{apart}
use Rattle.lent_mesh.specs.Grid.{position_at}
use Rattle.lent_mesh.specs.Stored.{store_at}
use Rattle.lent_mesh.proofs.Points.{put_point-exchange}
use Rattle.held_visits.specs.CellMemory.{number_edge}

-- ---- words of the cache

-- a store where b says so
abbrev stored : Bool → List ℕ → ℕ → ℕ → List ℕ
stored b w i v = cond b (set w i v) w

stored-exchange : (a b : Bool) (w : List ℕ) (i j u v : ℕ) → (a ≡ true → b ≡ true → i ≡ j → ⊥) → stored b (stored a w i u) j v ≡ stored a (stored b w j v) i u
stored-exchange true true w i j u v h = set_comm w i j u v (h refl refl)
stored-exchange true false w i j u v h = refl
stored-exchange false true w i j u v h = refl
stored-exchange false false w i j u v h = refl

layer-column : (e : ℕ) → in_layer e ≡ true → (4 ≤ e) × (e ≤ 7)
unfolding in_layer
layer-column e h = (leb-true 4 e (and_left (leb 4 e) (leb e 7) h), leb-true e 7 (and_right (leb 4 e) (leb e 7) h))

-- the edge of a column
abbrev edge_in : ℕ → ℕ
edge_in zero = 6
edge_in (suc zero) = 11
edge_in (suc (suc d)) = 10

column-edge : (e : ℕ) → ltb (put_column e) 3 ≡ true → edge_in (put_column e) ≡ e
unfolding put_column
column-edge e = by_tests (eqb e 6) (eqb e 11) (eqb e 10) (λ t. eqb-true e 6 t) (λ t. eqb-true e 11 t) (λ t. eqb-true e 10 t)
  where
    by_tests : (a b c : Bool) → (a ≡ true → e ≡ 6) → (b ≡ true → e ≡ 11) → (c ≡ true → e ≡ 10)
        → ltb (cond a 0 (cond b 1 (cond c 2 3))) 3 ≡ true → edge_in (cond a 0 (cond b 1 (cond c 2 3))) ≡ e
    by_tests true b c f g h t = sym (f refl)
    by_tests false true c f g h t = sym (g refl)
    by_tests false false true f g h t = sym (h refl)
    by_tests false false false f g h t = absurd (false≢true t)

module _ (n x y : ℕ) (lx : x < n) (ly : y < n) (l r e d i j : ℕ) (differ : e ≡ d → ⊥) where
  abbrev layer_at : ℕ → ℕ
  layer_at k = layer_place l (y * n + x) (k - 4)

  abbrev row_at : ℕ → ℕ
  row_at k = row_place n r x (put_column k)

  abbrev row? : ℕ → Bool
  row? k = ltb (put_column k) 3

  -- a layer's word is before those of the rows
  apart-kinds : l ≤ 1 → (k m : ℕ) → in_layer k ≡ true → layer_at k ≡ row_at m → ⊥
  apart-kinds ll k m t q =
      let below = place-lt n x y lx ly in
      let column = layer-column k t in
      omega arith

  work-exchange : l ≤ 1 → (w : List ℕ)
      → put_row n r x e i (put_layer n l x y e i (put_row n r x d j (put_layer n l x y d j w)))
      ≡ put_row n r x d j (put_layer n l x y d j (put_row n r x e i (put_layer n l x y e i w)))
  unfolding put_row put_layer
  work-exchange ll w =
      let low : List ℕ = stored (in_layer d) w (layer_at d) j in
      let both : List ℕ = stored (in_layer e) low (layer_at e) i in
      ap (λ (v : List ℕ). stored (row? e) v (row_at e) i)
      (stored-exchange (row? d) (in_layer e) low (row_at d) (layer_at e) j i (λ a b q. apart-kinds ll e d b (sym q)))
      ∙ stored-exchange (row? d) (row? e) both (row_at d) (row_at e) j i
      (λ a b q. differ (sym (column-edge e b) ∙ ap edge_in (let same : put_column e ≡ put_column d = omega arith in same) ∙ column-edge d a))
      ∙ ap (λ (v : List ℕ). stored (row? d) (stored (row? e) v (row_at e) i) (row_at d) j)
      (stored-exchange (in_layer d) (in_layer e) w (layer_at d) (layer_at e) j i
      (λ a b q. let ed = layer-column d a in let ee = layer-column e b in differ (omega arith)))
      ∙ ap (λ (v : List ℕ). stored (row? d) v (row_at d) j)
      (stored-exchange (in_layer d) (row? e) (stored (in_layer e) w (layer_at e) i) (layer_at d) (row_at e) j i (λ a b q. apart-kinds ll d e a q))

-- ---- two pairs that are apart

abbrev in_cells : ℕ → ℕ → Bool
in_cells p q = ltb (p % 16) 12 && ltb (q % 16) 12

abbrev differing : ℕ → ℕ → Bool
differing p q = not (eqb (p % 16) (q % 16)) && not (eqb (p / 16) (q / 16))

not_equal : (a b : ℕ) → T (not (eqb a b)) → a ≡ b → ⊥
not_equal a b t = eqb-false a b (off (eqb a b) t)
  where
    off : (c : Bool) → T (not c) → c ≡ false
    off true t = absurd t
    off false t = refl

apart-edges : (p q : ℕ) → T (apart p q) → p % 16 ≡ q % 16 → ⊥
apart-edges p q t = not_equal (p % 16) (q % 16) (both_left (not (eqb (p % 16) (q % 16))) (not (eqb (p / 16) (q / 16))) (both_right (in_cells p q) (differing p q) t))

apart-ranks : (p q : ℕ) → T (apart p q) → p / 16 ≡ q / 16 → ⊥
apart-ranks p q t = not_equal (p / 16) (q / 16) (both_right (not (eqb (p % 16) (q % 16))) (not (eqb (p / 16) (q / 16))) (both_right (in_cells p q) (differing p q) t))

-- ---- the edges of pairs, numbered by rank

abbrev State : Type 0
State = Lent CacheMemory (List Float)

abbrev handed : List ℕ → List ℕ → List Float → State → State
handed work current vertices s =
    record {
      memory = record { work = work; layer = s.memory.layer; row = s.memory.row; current = current };
      vertices = vertices;
      indices = s.indices;
      made = s.made;
      written = s.written;
    }

module _ (n : ℕ) (samples : List Float) (x y z : ℕ) (lx : x < n) (ly : y < n) where
  number-exchange : (e d i j : ℕ) (s : State) → (e ≡ d → ⊥) → (i ≡ j → ⊥)
      → number_edge n samples x y z e i (number_edge n samples x y z d j s) ≡ number_edge n samples x y z d j (number_edge n samples x y z e i s)
  unfolding number_edge put_memory
  number-exchange e d i j s he hi =
      let l : ℕ = 1 - s.memory.layer in
      let r : ℕ = 1 - s.memory.row in
      let w : List ℕ = s.memory.work in
      let c : List ℕ = s.memory.current in
      let v : List Float = s.vertices in
      ap (λ (u : List ℕ). handed u (set (set c d j) e i) (store_at n samples (edge_visit x y z e) i (store_at n samples (edge_visit x y z d) j v)) s) (work-exchange n x y lx ly l r e d i j he (omega arith) w)
      ∙ ap₂ (λ (u : List ℕ) (a : List Float). handed (put_row n r x d j (put_layer n l x y d j (put_row n r x e i (put_layer n l x y e i w)))) u a s)
      (set_comm c d e j i (λ q. he (sym q)))
      (put_point-exchange v j i (position_at n samples (edge_visit x y z d)) (position_at n samples (edge_visit x y z e)) (λ q. hi (sym q)))

  -- an edge and its rank, from the number m on
  abbrev pub by_rank : ℕ → ℕ → State → State
  by_rank m p s = number_edge n samples x y z (p % 16) (m + p / 16) s

  pub rank-exchange : (m p q : ℕ) (s : State) → T (apart p q) → by_rank m p (by_rank m q s) ≡ by_rank m q (by_rank m p s)
  rank-exchange m p q s t =
      number-exchange (p % 16) (q % 16) (m + p / 16) (m + q / 16) s (apart-edges p q t) (λ e. apart-ranks p q t (omega arith))
