-- The places that the code works out, and what a store or a read there is in the model. For `put`, `found` and `clear_row`;
-- and that a store leaves the room for the cache, for whoever goes on storing.
use mathlib.Core.Path.{◌≡◌, sym, ap, ◌∙◌}
use mathlib.Core.Bool.{cond}
use mathlib.Core.List.{List, [], ◌∷◌}
use Prim.Native.Nat.{ℕ, suc, ◌+◌, ◌-◌, ◌*◌}
use native.Mathlib.Nat.{add-zero}
use native.Mathlib.Numerals.{add-one}
use native.Mathlib.Omega.{arith}
use lib.Dec.{ltb}
use lib.ListN.{length, get_or, set}
use Rattle.walk.specs.Walk.{times}
use Rattle.walk.specs.Cache.{in_layer, put_column}
use Rattle.walk_models.specs.CacheMemory.{put_layer, put_row, clear_row}
use Rattle.index_cache.specs.Found.{CacheRoom, found_all}

pub room-kept : {n : ℕ} (work next : List ℕ) → length next ≡ length work → CacheRoom n work → CacheRoom n next
room-kept work next same h = record { room = omega (arith, h.room, same) }

-- a store to the layer, then one to the row
pub put-stored : (n x y l r e i at place : ℕ) (w u t : List ℕ)
    → at ≡ 8 * (y * n + x) + 4 * l
    → u ≡ cond (in_layer e) (set w (at + (e - 4)) i) w
    → place ≡ 8 * (n * n) + 6 * x + 3 * r
    → t ≡ cond (ltb (put_column e) 3) (set u (place + put_column e) i) u
    → t ≡ put_row n r x e i (put_layer n l x y e i w)
unfolding put_row put_layer
put-stored n x y l r e i at place w u t p q a d = rw (d, a, q, p)

-- seven reads
pub found-read : (n x y l r a b : ℕ) (w : List ℕ)
    → a ≡ 8 * (y * n + x) + 4 * l
    → b ≡ 8 * (n * n) + 6 * x + 3 * r
    → ◌≡◌ {A = List ℕ}
    (get_or w a 0 ∷ get_or w (a + 1) 0 ∷ get_or w (a + 2) 0 ∷ get_or w (a + 3) 0
    ∷ get_or w b 0 ∷ 0 ∷ 0 ∷ 0 ∷ get_or w (b + 1) 0 ∷ get_or w (b + 2) 0 ∷ 0 ∷ 0 ∷ [])
    (found_all n x y l r w)
found-read n x y l r a b w p q = rw (p, q, add-zero, add-zero)

-- one place of the row more
pub clear_row-suc : (n r x at : ℕ) (w u t : List ℕ)
    → at ≡ 8 * (n * n) + 6 * x + 3 * r
    → u ≡ clear_row n r x w
    → t ≡ set (set (set u at 0) (at + 1) 0) (at + 2) 0
    → t ≡ clear_row n r (x + 1) w
unfolding clear_row times
clear_row-suc n r x at w u t p q d =
    let turn : t ≡ clear_row n r (suc x) w = rw (d, q, p, add-zero) in
    turn ∙ ap (λ (k : ℕ). clear_row n r k w) (sym (add-one x))
