-- What the code of the index cache may rely on beside its size, and what `get` finds outside a cell. A private model, which the contracts of the walk's functions cite.
use Rattle.std.specs.Prelude.{List, [], ◌∷◌, ℕ, ◌+◌, ◌*◌, ◌≤◌, length, get_or}
use Rattle.walk_models.specs.CacheMemory.{layer_place, row_place}

-- room for the cache
pub record CacheRoom (n : ℕ) (work : List ℕ) : Type 0 where
  pub room : 8 * (n * n) + 6 * n ≤ length work

-- edges 0 to 3 from the layer, 4, 8 and 9 from the row
abbrev pub found_all : ℕ → ℕ → ℕ → ℕ → ℕ → List ℕ → List ℕ
found_all n x y l r w =
    get_or w (layer_place l (y * n + x) 0) 0 ∷ get_or w (layer_place l (y * n + x) 1) 0
    ∷ get_or w (layer_place l (y * n + x) 2) 0 ∷ get_or w (layer_place l (y * n + x) 3) 0
    ∷ get_or w (row_place n r x 0) 0 ∷ 0 ∷ 0 ∷ 0 ∷ get_or w (row_place n r x 1) 0 ∷ get_or w (row_place n r x 2) 0 ∷ 0 ∷ 0 ∷ []
