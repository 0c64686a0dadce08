-- What the lists of edges in a word still hold, as their iterators go over them. A private model, which the contracts of those iterators cite.
use Rattle.std.specs.Prelude.{List, [], ◌∷◌, ℕ, ◌+◌, set}
use Rattle.packed_tables.specs.declared.edges.PackedEdges.{PackedEdges}
use Rattle.packed_tables.specs.declared.edges.PackedTriangles.{PackedTriangles}
use Rattle.packed_tables.specs.Unpacked.{unpacked, triangles}

abbrev pub edges_left : PackedEdges → List ℕ
edges_left edges = unpacked edges.count edges.word

abbrev pub triangles_left : PackedTriangles → List (ℕ × ℕ × ℕ)
triangles_left list = triangles list.count list.word

-- the numbers of their edges, put into a list from a place on
unfoldable pub numbers_put : (ℕ → ℕ) → List (ℕ × ℕ × ℕ) → ℕ → List ℕ → List ℕ
numbers_put number [] place l = l
numbers_put number ((a, b, c) ∷ list) place l =
    numbers_put number list (place + 3) (set (set (set l place (number a)) (place + 1) (number b)) (place + 2) (number c))
