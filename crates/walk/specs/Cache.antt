-- `IndexCache` of index_cache.rs, call for call: `layers0 p d` is `layers[0][p][d]`, and so on. What is strange in it is kept (document 01,
-- "The two numberings").
use Rattle.std.specs.Prelude.{Bool, cond, ◌&&◌, ◌||◌, ℕ, ◌+◌, ◌-◌, ◌*◌, eqb, leb, ltb}

pub record Cache : Type 0 where
  pub layers0 : ℕ → ℕ → ℕ
  pub layers1 : ℕ → ℕ → ℕ
  pub rows0 : ℕ → ℕ → ℕ
  pub rows1 : ℕ → ℕ → ℕ
  pub cells0 : ℕ → ℕ
  pub cells1 : ℕ → ℕ
  pub current : ℕ → ℕ

-- `new`
unfoldable pub fresh : Cache
fresh =
    record {
      layers0 = λ p d. 0;
      layers1 = λ p d. 0;
      rows0 = λ x d. 0;
      rows1 = λ x d. 0;
      cells0 = λ i. 0;
      cells1 = λ i. 0;
      current = λ e. 0;
    }

-- the same array, but v at place i
unfoldable pub stored : {A : Type 0} → (ℕ → A) → ℕ → A → ℕ → A
stored f i v j = cond (eqb j i) v (f j)

-- the columns of `rows` that `put` writes and `get` reads for an edge; 3 where there is none
unfoldable pub put_column : ℕ → ℕ
put_column e = cond (eqb e 6) 0 (cond (eqb e 11) 1 (cond (eqb e 10) 2 3))

unfoldable pub get_column : ℕ → ℕ
get_column e = cond (eqb e 4) 0 (cond (eqb e 8) 1 (cond (eqb e 9) 2 3))

-- the edges that `put` writes to `layers`
unfoldable pub in_layer : ℕ → Bool
in_layer e = leb 4 e && leb e 7

unfoldable pub put : ℕ → ℕ → ℕ → ℕ → ℕ → Cache → Cache
put n x y e index c =
    record {
      layers0 = c.layers0;
      layers1 = cond (in_layer e) (stored c.layers1 (y * n + x) (stored (c.layers1 (y * n + x)) (e - 4) index)) c.layers1;
      rows0 = c.rows0;
      rows1 = cond (ltb (put_column e) 3) (stored c.rows1 x (stored (c.rows1 x) (put_column e) index)) c.rows1;
      cells0 = c.cells0;
      cells1 = cond (eqb e 5 || eqb e 10) (stored c.cells1 0 index) c.cells1;
      current = stored c.current e index;
    }

-- the result of `get`'s match
unfoldable pub found : ℕ → ℕ → ℕ → ℕ → Cache → ℕ
found n x y e c =
    cond (leb e 3) (c.layers0 (y * n + x) e)
    (cond (ltb (get_column e) 3) (c.rows0 x (get_column e))
    (cond (eqb e 7 || eqb e 11) (c.cells0 1) 0))

unfoldable pub get : ℕ → ℕ → ℕ → ℕ → Cache → ℕ
get n x y e c = cond (ltb 0 (found n x y e c)) (found n x y e c) (c.current e)

unfoldable pub advance_cell : Cache → Cache
advance_cell c =
    record {
      layers0 = c.layers0;
      layers1 = c.layers1;
      rows0 = c.rows0;
      rows1 = c.rows1;
      cells0 = c.cells1;
      cells1 = c.cells0;
      current = λ e. 0;
    }

unfoldable pub advance_row : Cache → Cache
advance_row c =
    record {
      layers0 = c.layers0;
      layers1 = c.layers1;
      rows0 = c.rows1;
      rows1 = c.rows0;
      cells0 = λ i. 0;
      cells1 = c.cells1;
      current = c.current;
    }

unfoldable pub advance_layer : Cache → Cache
advance_layer c =
    record {
      layers0 = c.layers1;
      layers1 = c.layers0;
      rows0 = λ x d. 0;
      rows1 = c.rows1;
      cells0 = λ i. 0;
      cells1 = c.cells1;
      current = c.current;
    }
