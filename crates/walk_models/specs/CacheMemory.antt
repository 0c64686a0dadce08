-- The index cache in lent working memory: eight words for each place of a layer, four of each of the two layers, then six for each x, three of each
-- of the two rows. Which of the two is `[0]` is a parity, `cells` is left out, and `current` is small state.
use Rattle.std.specs.Prelude.{cond, List, ℕ, ◌+◌, ◌-◌, ◌*◌, leb, ltb, get_or, set, replicate}
use Rattle.walk.specs.Walk.{times}
use Rattle.walk.specs.Cache.{in_layer, put_column, get_column}
use Rattle.walk.specs.Numbering.{Numbering, one_more}

pub record CacheMemory : Type 0 where
  pub work : List ℕ
  pub layer : ℕ
  pub row : ℕ
  pub current : List ℕ

-- column d of place p in layer l, and of place x in row r
abbrev pub layer_place : ℕ → ℕ → ℕ → ℕ
layer_place l p d = 8 * p + 4 * l + d

abbrev pub row_place : ℕ → ℕ → ℕ → ℕ → ℕ
row_place n r x d = 8 * (n * n) + 6 * x + 3 * r + d

unfoldable pub put_layer : ℕ → ℕ → ℕ → ℕ → ℕ → ℕ → List ℕ → List ℕ
put_layer n l x y e i w = cond (in_layer e) (set w (layer_place l (y * n + x) (e - 4)) i) w

unfoldable pub put_row : ℕ → ℕ → ℕ → ℕ → ℕ → List ℕ → List ℕ
put_row n r x e i w = cond (ltb (put_column e) 3) (set w (row_place n r x (put_column e)) i) w

unfoldable pub put_memory : ℕ → ℕ → ℕ → ℕ → ℕ → CacheMemory → CacheMemory
put_memory n x y e i f =
    record {
      work = put_row n (1 - f.row) x e i (put_layer n (1 - f.layer) x y e i f.work);
      layer = f.layer;
      row = f.row;
      current = set f.current e i;
    }

unfoldable pub found_memory : ℕ → ℕ → ℕ → ℕ → CacheMemory → ℕ
found_memory n x y e f =
    cond (leb e 3) (get_or f.work (layer_place f.layer (y * n + x) e) 0)
    (cond (ltb (get_column e) 3) (get_or f.work (row_place n f.row x (get_column e)) 0) 0)

unfoldable pub get_memory : ℕ → ℕ → ℕ → ℕ → CacheMemory → ℕ
get_memory n x y e f = cond (ltb 0 (found_memory n x y e f)) (found_memory n x y e f) (get_or f.current e 0)

-- the first k places of row r to zero
unfoldable pub clear_row : ℕ → ℕ → ℕ → List ℕ → List ℕ
clear_row n r k w = times k (λ x t. set (set (set t (row_place n r x 0) 0) (row_place n r x 1) 0) (row_place n r x 2) 0) w

unfoldable pub crate_memory : ℕ → Numbering CacheMemory
crate_memory n =
    record {
      look = λ v f. one_more (get_memory n v.x v.y v.edge f);
      note = λ v i f. put_memory n v.x v.y v.edge i f;
      cell_end = λ f. record { work = f.work; layer = f.layer; row = f.row; current = replicate 12 0 };
      row_end = λ f. record { work = f.work; layer = f.layer; row = 1 - f.row; current = f.current };
      layer_end = λ f. record { work = clear_row n f.row n f.work; layer = 1 - f.layer; row = f.row; current = f.current };
    }
