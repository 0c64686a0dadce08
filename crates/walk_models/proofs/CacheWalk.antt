-- The index cache in lent memory is the index cache: every call keeps the two alike, so the crate mesh is what the walk over the memory leaves, and
-- the working memory past 8n² + 6n words stays as it was.
use mathlib.Core.Path.{◌≡◌, refl, sym, ap, ◌∙◌}
use mathlib.Core.Bool.{Bool, true, false, ◌||◌, cond}
use mathlib.Core.List.{List}
use Prim.Native.Nat.{ℕ, ◌+◌, ◌-◌, ◌*◌, ◌<◌, ◌≤◌}
use native.Mathlib.Omega.{arith}
use lib.Dec.{eqb, leb, ltb}
use lib.ListN.{length, get_or, set, drop, replicate, length-set, length-replicate, get_or-replicate}
use lib.Seq.{sets}
use borrow.Author.Tests.{leb-true, ltb-true}
use Rattle.walk.specs.Walk.{Visit, Inside, walk}
use Rattle.walk.specs.Cache.{Cache, fresh, stored, put_column, get_column, in_layer, put, found, get, advance_cell, advance_row, advance_layer}
use Rattle.walk.specs.Numbering.{mesh, crate, one_more}
use Rattle.walk.proofs.Bools.{and_left, and_right}
use Rattle.walk.proofs.Rank.{place-lt}
use Rattle.walk.proofs.CrateNumbering.{cells-kept}
use Rattle.walk.proofs.Simulation.{Simulates, meshes-agree}
use Rattle.walk_models.specs.Lent.{Lent, untouched, lent_hooks, store_all}
use Rattle.walk_models.specs.CacheMemory.{CacheMemory, layer_place, row_place, put_layer, put_row, put_memory, found_memory, get_memory, crate_memory}
use Rattle.walk_models.proofs.Writing.{walk-left}
use Rattle.walk_models.proofs.CacheViews.{line_set, Views, layer-store, row-store, layer-swap, row-swap, row-cleared}

module _ (n : ℕ) (old : List ℕ) (room : 8 * (n * n) + 6 * n ≤ length old) where
  -- ---- the calls

  pub record Alike (c : Cache) (f : CacheMemory) : Type 0 where
    pub views : Views n old f.work f.layer f.row c.layers0 c.layers1 c.rows0 c.rows1
    pub current : (e : ℕ) → e < 12 → get_or f.current e 0 ≡ c.current e
    pub twelve : length f.current ≡ 12
    pub none0 : c.cells0 1 ≡ 0
    pub none1 : c.cells1 1 ≡ 0

  -- the same choice on both sides
  layer-if : (b : Bool) (u w : List ℕ) (l r : ℕ) (l0 l1 r0 r1 k1 : ℕ → ℕ → ℕ) → (b ≡ true → Views n old u l r l0 k1 r0 r1)
      → Views n old w l r l0 l1 r0 r1
      → Views n old (cond b u w) l r l0 (cond b k1 l1) r0 r1
  layer-if true u w l r l0 l1 r0 r1 k1 new old = new refl
  layer-if false u w l r l0 l1 r0 r1 k1 new old = old

  row-if : (b : Bool) (u w : List ℕ) (l r : ℕ) (l0 l1 r0 r1 k1 : ℕ → ℕ → ℕ) → (b ≡ true → Views n old u l r l0 l1 r0 k1)
      → Views n old w l r l0 l1 r0 r1
      → Views n old (cond b u w) l r l0 l1 r0 (cond b k1 r1)
  row-if true u w l r l0 l1 r0 r1 k1 new old = new refl
  row-if false u w l r l0 l1 r0 r1 k1 new old = old

  in_layer-lt : (e : ℕ) → in_layer e ≡ true → e - 4 < 4
  unfolding in_layer
  in_layer-lt e h =
      let a = leb-true 4 e (and_left (leb 4 e) (leb e 7) h) in
      let b = leb-true e 7 (and_right (leb 4 e) (leb e 7) h) in
      omega arith

  put-alike : (x y e i : ℕ) (c : Cache) (f : CacheMemory) → x < n → y < n → e < 12 → Alike c f
      → Alike (put n x y e i c) (put_memory n x y e i f)
  unfolding put put_memory put_layer put_row
  put-alike x y e i c f hx hy he a =
      let p : ℕ = y * n + x in
      let k : ℕ = put_column e in
      let w : List ℕ = cond (in_layer e) (set f.work (layer_place (1 - f.layer) p (e - 4)) i) f.work in
      let v =
      layer-if (in_layer e) (set f.work (layer_place (1 - f.layer) p (e - 4)) i) f.work f.layer f.row c.layers0 c.layers1 c.rows0 c.rows1
      (stored c.layers1 p (stored (c.layers1 p) (e - 4) i))
      (λ t. layer-store n old room f.work f.layer f.row _ _ _ _ a.views p (e - 4) i (place-lt n x y hx hy) (in_layer-lt e t)) a.views in
      record {
        views =
            row-if (ltb k 3) (set w (row_place n (1 - f.row) x k) i) w f.layer f.row c.layers0 _ c.rows0 c.rows1 (stored c.rows1 x (stored (c.rows1 x) k i))
            (λ t. row-store n old room w f.layer f.row _ _ _ _ v x k i hx (ltb-true k 3 t)) v;
        current = λ j hj. line_set f.current c.current e j i (omega (arith, a.twelve)) (a.current j hj);
        twelve = length-set f.current e i ∙ a.twelve;
        none0 = a.none0;
        none1 = cells-kept (eqb e 5 || eqb e 10) c.cells1 i a.none1;
      }

  cond_both : (b : Bool) (i j k m : ℕ) → (b ≡ true → i ≡ j) → k ≡ m → cond b i k ≡ cond b j m
  cond_both true i j k m h e = h refl
  cond_both false i j k m h e = e

  cells-none : (b : Bool) (i : ℕ) → i ≡ 0 → 0 ≡ cond b i 0
  cells-none true i h = sym h
  cells-none false i h = refl

  found_alike : (x y e : ℕ) (c : Cache) (f : CacheMemory) → x < n → y < n → Alike c f → found_memory n x y e f ≡ found n x y e c
  unfolding found_memory found
  found_alike x y e c f hx hy a =
      cond_both (leb e 3) _ _ _ _ (λ t. let h = leb-true e 3 t in a.views.lay0 (y * n + x) e (place-lt n x y hx hy) (omega arith))
      (cond_both (ltb (get_column e) 3) _ _ _ _ (λ t. a.views.row0 x (get_column e) hx (ltb-true (get_column e) 3 t)) (cells-none (eqb e 7 || eqb e 11) (c.cells0 1) a.none0))

  get_alike : (x y e : ℕ) (c : Cache) (f : CacheMemory) → x < n → y < n → e < 12 → Alike c f → get_memory n x y e f ≡ get n x y e c
  unfolding get_memory get
  get_alike x y e c f hx hy he a = rw (found_alike x y e c f hx hy a, a.current e he)

  pub crate-simulated : Simulates (λ z i. Alike) n (crate n) (crate_memory n)
  unfolding crate crate_memory advance_cell advance_row advance_layer
  crate-simulated =
      record {
        look = λ z i v c f b a. let bx = b.x_lt in let by = b.y-lt in ap one_more (get_alike v.x v.y v.edge c f (omega arith) (omega arith) b.edge-lt a);
        note = λ z i v c f b q a. let bx = b.x_lt in let by = b.y-lt in put-alike v.x v.y v.edge i c f (omega arith) (omega arith) b.edge-lt a;
        cell_end = λ z i c f a.
            record { views = a.views; current = λ e h. get_or-replicate 12 e 0 0 h; twelve = length-replicate {A = ℕ} 12 0; none0 = a.none1; none1 = a.none0 };
        row_end = λ z i c f a.
            record { views = row-swap n old room _ _ _ _ _ _ _ a.views; current = a.current; twelve = a.twelve; none0 = refl; none1 = a.none1 };
        layer_end = λ z i c f a.
            record { views = layer-swap n old room _ _ _ _ _ _ _ (row-cleared n old room _ _ _ _ _ _ _ a.views); current = a.current; twelve = a.twelve; none0 = refl; none1 = a.none1 };
      }

  -- ---- the walk

  -- memory whose window is zero is the cache at its start
  pub zero-alike : ((i : ℕ) → i < 8 * (n * n) + 6 * n → get_or old i 0 ≡ 0) → Alike fresh (record { work = old; layer = 0; row = 0; current = replicate 12 0 })
  unfolding fresh
  zero-alike zeros =
      record {
        views =
            record {
              l_le = omega arith;
              r-le = omega arith;
              size = refl;
              tail = refl;
              lay0 = λ p d hp hd. zeros (layer_place 0 p d) (omega arith);
              lay1 = λ p d hp hd. zeros (layer_place (1 - 0) p d) (omega arith);
              row0 = λ x d hx hd. zeros (row_place n 0 x d) (omega arith);
              row1 = λ x d hx hd. zeros (row_place n (1 - 0) x d) (omega arith);
            };
        current = λ e h. get_or-replicate 12 e 0 0 h;
        twelve = length-replicate {A = ℕ} 12 0;
        none0 = refl;
        none1 = refl;
      }

  module _ {B : Type 0} (store : Visit → ℕ → B → B) (b : B) (l : List ℕ) (g : Inside) (layers : ℕ) (zeros : (i : ℕ) → i < 8 * (n * n) + 6 * n → get_or old i 0 ≡ 0) where
    abbrev pub cache_end : Lent CacheMemory B
    cache_end = walk (lent_hooks (crate_memory n) store) g n layers (untouched (record { work = old; layer = 0; row = 0; current = replicate 12 0 }) b l)

    pub record CacheWritten : Type 0 where
      pub vertices : cache_end.vertices ≡ store_all store 0 (mesh (crate n) fresh g n layers).made b
      pub indices : cache_end.indices ≡ sets l 0 (mesh (crate n) fresh g n layers).indices
      pub made : cache_end.made ≡ length (mesh (crate n) fresh g n layers).made
      pub written : cache_end.written ≡ length (mesh (crate n) fresh g n layers).indices
      pub size : length cache_end.memory.work ≡ length old
      pub tail : drop (8 * (n * n) + 6 * n) cache_end.memory.work ≡ drop (8 * (n * n) + 6 * n) old

    pub cache-walk : CacheWritten
    cache-walk =
        let start : CacheMemory = record { work = old; layer = 0; row = 0; current = replicate 12 0 } in
        let a = meshes-agree (λ z i. Alike) n (crate n) (crate_memory n) crate-simulated g layers fresh start (zero-alike zeros) in
        let w = walk-left (crate_memory n) store b l g n layers start in
        record {
          vertices = ap (λ (t : Lent CacheMemory B). t.vertices) w ∙ ap (λ (vs : List Visit). store_all store 0 vs b) a.made;
          indices = ap (λ (t : Lent CacheMemory B). t.indices) w ∙ ap (sets l 0) a.indices;
          made = ap (λ (t : Lent CacheMemory B). t.made) w ∙ ap length a.made;
          written = ap (λ (t : Lent CacheMemory B). t.written) w ∙ ap length a.indices;
          size = ap (λ (t : Lent CacheMemory B). length t.memory.work) w ∙ a.memory.views.size;
          tail = ap (λ (t : Lent CacheMemory B). drop (8 * (n * n) + 6 * n) t.memory.work) w ∙ a.memory.views.tail;
        }
