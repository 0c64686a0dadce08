-- A list of edges in one word. A private model, which the contracts of the walk's functions cite.
use Rattle.std.specs.Prelude.{List, [], ◌∷◌, ◌++◌, ℕ, zero, suc, ◌+◌, ◌*◌, ◌/◌, ◌%◌, ◌^◌, ◌<◌}
use Rattle.std.specs.Coded.{×_prop, Unit-prop, le_prop}

-- k edges, four bits each, the first in the lowest
unfoldable pub unpacked : ℕ → ℕ → List ℕ
unpacked zero word = []
unpacked (suc k) word = word % 16 ∷ unpacked k (word / 16)

-- each is the number of an edge
unfoldable pub Edges : List ℕ → Type 0
Edges [] = Unit
Edges (e ∷ es) = (e < 12) × Edges es

-- there is one proof of that at most
pub edges-prop : (es : List ℕ) → IsProp (Edges es)
unfolding Edges
edges-prop [] = Unit-prop
edges-prop (e ∷ es) = ×_prop le_prop (edges-prop es)

-- a list three edges at a time
unfoldable pub triangles : ℕ → ℕ → List (ℕ × ℕ × ℕ)
triangles zero word = []
triangles (suc k) word = (word % 16, word / 16 % 16, word / 16 / 16 % 16) ∷ triangles k (word / 16 / 16 / 16)

-- their edges, one after the other
unfoldable pub edges_of : List (ℕ × ℕ × ℕ) → List ℕ
edges_of [] = []
edges_of ((a, b, c) ∷ list) = a ∷ b ∷ c ∷ edges_of list

-- An edge's mark is one more than its rank in such a list, or 0 where it is not in it. Edge and rank are one number.
abbrev pub marked : ℕ → ℕ → List ℕ
marked e zero = []
marked e (suc rank) = (e + 16 * rank) ∷ []

-- the marks of the edges that an inner cell can own, four bits each from bit 16 on: two in the upper plane, and one along z
abbrev pub upper_marked : ℕ → List ℕ
upper_marked word = marked 5 (word / 2 ^ 16 % 16) ++ marked 6 (word / 2 ^ 20 % 16)

abbrev pub inner_marked : ℕ → List ℕ
inner_marked word = upper_marked word ++ marked 10 (word / 2 ^ 24 % 16)
