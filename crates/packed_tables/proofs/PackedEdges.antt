-- A packed list of edges: its first edge and the others, how many there are, and that each is the number of an edge. For the loops over packed lists.
use mathlib.Core.Path.{◌≡◌, refl, sym, ap, subst}
use mathlib.Core.List.{List, [], ◌∷◌}
use Prim.Native.Nat.{ℕ, zero, suc, ◌-◌, ◌*◌, ◌/◌, ◌%◌, ◌<◌}
use native.Mathlib.Nat.{not-suc-le-zero, le_of_suc-le-suc}
use native.Mathlib.Omega.{arith}
use lib.ListN.{length, get_or}
use Rattle.packed_tables.specs.declared.edges.PackedEdges.{PackedEdges}
use Rattle.packed_tables.specs.declared.edges.PackedTriangles.{PackedTriangles}
use Rattle.packed_tables.specs.Listed.{edges_left, triangles_left}
use Rattle.packed_tables.specs.Unpacked.{unpacked, Edges, triangles, edges_of}

pub unpacked-suc : (left rest : ℕ) → 0 < left → unpacked left rest ≡ rest % 16 ∷ unpacked (left - 1) (rest / 16)
unfolding unpacked
unpacked-suc zero rest h = absurd (omega arith)
unpacked-suc (suc k) rest h = let e : suc k - 1 ≡ k = omega arith in rw e

pub unpacked-none : (left rest : ℕ) → left ≡ 0 → unpacked left rest ≡ []
unfolding unpacked
unpacked-none left rest h = rw h

pub triangles-suc : (left rest : ℕ) → 0 < left
    → triangles left rest ≡ (rest % 16, rest / 16 % 16, rest / 16 / 16 % 16) ∷ triangles (left - 1) (rest / 16 / 16 / 16)
unfolding triangles
triangles-suc zero rest h = absurd (omega arith)
triangles-suc (suc k) rest h = let e : suc k - 1 ≡ k = omega arith in rw e

pub triangles-none : (left rest : ℕ) → left ≡ 0 → triangles left rest ≡ []
unfolding triangles
triangles-none left rest h = rw h

pub triangles-length : (k word : ℕ) → length (triangles k word) ≡ k
unfolding triangles
triangles-length zero word = refl
triangles-length (suc k) word = ap suc (triangles-length k (word / 16 / 16 / 16))

pub unpacked-length : (k word : ℕ) → length (unpacked k word) ≡ k
unfolding unpacked
unpacked-length zero word = refl
unpacked-length (suc k) word = ap suc (unpacked-length k (word / 16))

-- entry by entry
pub edges-of-each : (es : List ℕ) → ((j : ℕ) → j < length es → get_or es j 0 < 12) → Edges es
unfolding Edges
edges-of-each [] h = tt
edges-of-each (e ∷ es) h = (h 0 (omega arith), edges-of-each es (λ j l. h (suc j) (omega arith)))

pub edges-each : (es : List ℕ) → Edges es → (j : ℕ) → j < length es → get_or es j 0 < 12
unfolding Edges
edges-each [] h j l = absurd (not-suc-le-zero l)
edges-each (e ∷ es) h zero l = h.0
edges-each (e ∷ es) h (suc j) l = edges-each es h.1 j (le_of_suc-le-suc l)

-- the first of the edges that are left, and the others
pub edges-first : (left rest : ℕ) → 0 < left → Edges (unpacked left rest) → rest % 16 < 12
unfolding Edges
edges-first left rest h es = (subst Edges (unpacked-suc left rest h) es).0

pub edges-rest : (left rest : ℕ) → 0 < left → Edges (unpacked left rest) → Edges (unpacked (left - 1) (rest / 16))
unfolding Edges
edges-rest left rest h es = (subst Edges (unpacked-suc left rest h) es).1

-- the edges of a triangle, and those after it
pub three-edges : (left rest : ℕ) → 0 < left → Edges (unpacked (3 * left) rest)
    → (rest % 16 < 12) × (rest / 16 % 16 < 12) × (rest / 16 / 16 % 16 < 12) × Edges (unpacked (3 * (left - 1)) (rest / 16 / 16 / 16))
three-edges left rest h es =
    let two = edges-rest (3 * left) rest (omega arith) es in
    let one = edges-rest (3 * left - 1) (rest / 16) (omega arith) two in
    let none = edges-rest (3 * left - 1 - 1) (rest / 16 / 16) (omega arith) one in
    let thrice : 3 * left - 1 - 1 - 1 ≡ 3 * (left - 1) = omega arith in (
      edges-first (3 * left) rest (omega arith) es,
      edges-first (3 * left - 1) (rest / 16) (omega arith) two,
      edges-first (3 * left - 1 - 1) (rest / 16 / 16) (omega arith) one,
      subst (λ (k : ℕ). Edges (unpacked k (rest / 16 / 16 / 16))) thrice none,
    )

-- triangle by triangle they are the edges of the word
pub edges-of-triangles : (k word : ℕ) → edges_of (triangles k word) ≡ unpacked (3 * k) word
unfolding triangles edges_of unpacked
edges-of-triangles zero word = refl
edges-of-triangles (suc k) word =
    let thrice : 3 * suc k ≡ suc (suc (suc (3 * k))) = omega arith in
    rw thrice (ap (λ (es : List ℕ). word % 16 ∷ word / 16 % 16 ∷ word / 16 / 16 % 16 ∷ es) (edges-of-triangles k (word / 16 / 16 / 16)))

pub triangles-known : (k word : ℕ) → Edges (unpacked (3 * k) word) → Edges (edges_of (triangles k word))
triangles-known k word h = subst Edges (sym (edges-of-triangles k word)) h

-- ---- as the iterators go over them

pub edge-known : (edges : PackedEdges) (e : ℕ) (rest : List ℕ) → edges_left edges ≡ e ∷ rest → e < 12
unfolding Edges
edge-known edges e rest h = (subst Edges h edges.known).0

pub triangle-known : (list : PackedTriangles) (a b c : ℕ) (rest : List (ℕ × ℕ × ℕ)) → triangles_left list ≡ (a, b, c) ∷ rest → (a < 12) × (b < 12) × (c < 12)
unfolding Edges edges_of
triangle-known list a b c rest h =
    let known = subst (λ (ts : List (ℕ × ℕ × ℕ)). Edges (edges_of ts)) h (triangles-known list.count list.word list.known) in
    (known.0, known.1.0, known.1.1.0)
