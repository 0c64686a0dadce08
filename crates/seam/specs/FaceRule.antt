-- The rule that CR 9 rests on: which sides the four corner signs of a cell's face put on it. `proofs/RowTest.antt` computes that every row of the
-- table keeps to it; the theorem does not mention it, so nothing here need be believed.
use Rattle.std.specs.Prelude.{Bool, true, false, cond, not, ◌&&◌, ◌||◌, List, [], ◌∷◌, ◌++◌, ℕ}
use Rattle.marching_cubes_tables.specs.Rule.{row_edges, member}

-- ---- directed sides between edges, or whatever stands for them

pub record Side (A : Type 0) : Type 0 where
  pub from : A
  pub to : A

abbrev pub side : {A : Type 0} → A → A → Side A
side p q = record { from = p; to = q }

-- the sides of the triangles that a list holds in threes
unfoldable pub sides : {A : Type 0} → List A → List (Side A)
sides [] = []
sides (p ∷ []) = []
sides (p ∷ q ∷ []) = []
sides (p ∷ q ∷ r ∷ l) = side p q ∷ side q r ∷ side r p ∷ sides l

-- every side the other way
abbrev pub turned : {A : Type 0} → List (Side A) → List (Side A)
turned [] = []
turned (s ∷ l) = side s.to s.from ∷ turned l

-- ---- a square

-- A run of inside corners begins at the corner `here`, the one before it being outside: a side goes from the edge where the run is left to the edge
-- where it is entered. The corners go round the square, and with them the edges: `entered` is the one before `here`.
unfoldable pub run : {A : Type 0} → Bool → Bool → Bool → Bool → A → A → A → A → List (Side A)
run before here next after entered first second third =
    cond (not before && here) (side (cond next (cond after third second) first) entered ∷ []) []

-- Corners p, q, r, s round the square and the edges between them. Two inside corners across from each other are two runs: they are kept apart.
unfoldable pub around : {A : Type 0} → Bool → Bool → Bool → Bool → A → A → A → A → List (Side A)
around p q r s pq qr rs sp = run s p q r sp pq qr rs ++ (run p q r s pq qr rs sp ++ (run q r s p qr rs sp pq ++ run r s p q rs sp pq qr))

-- ---- a cell

-- a face: four corners in turn and the edges between them; `high` where it is the face at the higher coordinate
pub record Face : Type 0 where
  pub high : Bool
  pub p : ℕ
  pub q : ℕ
  pub r : ℕ
  pub s : ℕ
  pub pq : ℕ
  pub qr : ℕ
  pub rs : ℕ
  pub sp : ℕ

abbrev pub face : Bool → ℕ → ℕ → ℕ → ℕ → ℕ → ℕ → ℕ → ℕ → Face
face high p q r s pq qr rs sp = record { high = high; p = p; q = q; r = r; s = s; pq = pq; qr = qr; rs = rs; sp = sp }

-- low and high along x, y and z: the two of an axis are gone round in the same sense
abbrev pub six_faces : List Face
six_faces =
    face false 0 3 7 4 3 11 7 8
    ∷ face true 1 2 6 5 1 10 5 9
    ∷ face false 0 4 5 1 8 4 9 0
    ∷ face true 3 7 6 2 11 6 10 2
    ∷ face false 0 1 2 3 0 1 2 3
    ∷ face true 4 5 6 7 4 5 6 7
    ∷ []

-- edges d and e are both of the face
unfoldable pub both_of : Face → ℕ → ℕ → Bool
both_of k d e = member d (k.pq ∷ k.qr ∷ k.rs ∷ k.sp ∷ []) && member e (k.pq ∷ k.qr ∷ k.rs ∷ k.sp ∷ [])

unfoldable pub common_face : List Face → ℕ → ℕ → Bool
common_face [] d e = false
common_face (k ∷ ks) d e = both_of k d e || common_face ks d e

-- the sides that its corner signs put on a face of the cell, edge e being called `name e`, as they run on a high face
unfoldable pub square_sides : {A : Type 0} → (ℕ → Bool) → (ℕ → A) → Face → List (Side A)
square_sides sign name k =
    around (sign k.p) (sign k.q) (sign k.r) (sign k.s) (name k.pq) (name k.qr) (name k.rs) (name k.sp)

-- a square that two cells share is the low face of one: there its sides are turned round
abbrev pub seen : {A : Type 0} → Bool → List (Side A) → List (Side A)
seen true l = l
seen false l = turned l

unfoldable pub face_sides : {A : Type 0} → (ℕ → Bool) → (ℕ → A) → Face → List (Side A)
face_sides sign name k = seen k.high (square_sides sign name k)

unfoldable pub faces_sides : {A : Type 0} → (ℕ → Bool) → (ℕ → A) → List Face → List (Side A)
faces_sides sign name [] = []
faces_sides sign name (k ∷ ks) = face_sides sign name k ++ faces_sides sign name ks

-- the sides of the triangles that the row of a sign byte names
unfoldable pub row_sides : ℕ → List (Side ℕ)
row_sides s = sides (row_edges s)
