-- The sum over the cells: each square of the grid gives one cell its sides and the cell beyond it the same sides turned round, so that between two
-- edges that lie in no common outer face as many sides run one way as the other.
use mathlib.Core.Path.{◌≡◌, refl, ap, ◌∙◌}
use mathlib.Core.Bool.{Bool, true, false, ◌&&◌, and_comm}
use mathlib.Core.List.{List, [], ◌∷◌, ◌++◌, map}
use Prim.Native.Nat.{ℕ, zero, suc, ◌+◌, ◌-◌, ◌<◌}
use native.Mathlib.Nat.{le_of_suc-le-suc, not-suc-le-zero}
use native.Mathlib.Omega.{arith}
use lib.Dec.{eqb, lit<}
use lib.ListN.{length, get_or}
use borrow.Author.Tests.{eq-eqb}
use Rattle.walk.specs.Walk.{Inside, cell_edges}
use Rattle.walk.specs.Edges.{Edge, edge_of, same}
use Rattle.walk.proofs.Bools.{or-none-left, or-none-right}
use Rattle.walk.proofs.GridEdges.{edge_at, visit_at, same_true}
use Rattle.walk.proofs.CellEdges.{cell_edges-lt}
use Rattle.walk.proofs.EightSigns.{cell_edges-byte, twelve_edges, edge_of-twelve}
use Rattle.seam.specs.Seam.{Plane, plane, lies_in, outer_faces, in_one_of}
use Rattle.seam.specs.FaceRule.{Side, sides, turned, around, six_faces, square_sides, face_sides, faces_sides}
use Rattle.seam.proofs.Sides.{count, count-append, count-turned, all_between, between-around, count-between}
use Rattle.seam.proofs.RowTest.{sign_of, row-net}
use Rattle.seam.proofs.Sums.{sum_cells, sum_cells-eq, sum_cells-add, sum_cells-along-x, sum_cells-along-y, sum_cells-along-z}

-- ---- a cell

abbrev edge_named : ℕ → ℕ → ℕ → ℕ → Edge
edge_named x y z e = get_or (twelve_edges x y z) e (edge_at 3 0 0 0)

map-agree : (f h : ℕ → Edge) (l : List ℕ) → ((i : ℕ) → i < length l → f (get_or l i 0) ≡ h (get_or l i 0)) → map f l ≡ map h l
map-agree f h [] e = refl
map-agree f h (a ∷ l) e =
    ap (λ (k : Edge). k ∷ map f l) (e 0 (omega arith)) ∙ ap (λ (r : List Edge). h a ∷ r) (map-agree f h l (λ i b. e (suc i) (omega arith)))

module _ (g : Inside) where
  -- the edges that the triangles of a cell name, and how many of their sides run from a to b
  abbrev pub cell_names : ℕ → ℕ → ℕ → List Edge
  cell_names x y z = map (λ e. edge_of (visit_at x y z e)) (cell_edges g x y z)

  abbrev pub in_cell : Edge → Edge → ℕ → ℕ → ℕ → ℕ
  in_cell a b x y z = count same a b (sides (cell_names x y z))

  cell_signs : ℕ → ℕ → ℕ → ℕ → Bool
  cell_signs x y z =
      sign_of (g x y z) (g (x + 1) y z) (g (x + 1) (y + 1) z) (g x (y + 1) z)
      (g x y (z + 1)) (g (x + 1) y (z + 1)) (g (x + 1) (y + 1) (z + 1)) (g x (y + 1) (z + 1))

  -- the sides that the signs of its corners put on its six faces
  cell_faces : ℕ → ℕ → ℕ → List (Side Edge)
  cell_faces x y z = faces_sides (cell_signs x y z) (edge_named x y z) six_faces

  cell-net : (a b : Edge) (x y z : ℕ)
      → in_cell a b x y z + count same b a (cell_faces x y z) ≡ in_cell b a x y z + count same a b (cell_faces x y z)
  unfolding cell_faces cell_signs
  cell-net a b x y z =
      let t =
      row-net same (edge_named x y z) (g x y z) (g (x + 1) y z) (g (x + 1) (y + 1) z) (g x (y + 1) z)
      (g x y (z + 1)) (g (x + 1) y (z + 1)) (g (x + 1) (y + 1) (z + 1)) (g x (y + 1) (z + 1)) a b in
      let e : cell_names x y z ≡ map (edge_named x y z) (cell_edges g x y z) =
      map-agree _ _ (cell_edges g x y z) (λ i h. edge_of-twelve x y z (get_or (cell_edges g x y z) i 0) (cell_edges-lt g x y z i h)) in
      rw (e ∙ ap (map (edge_named x y z)) (cell_edges-byte g x y z)) t

  -- ---- the squares of the grid, by the axis that they are square to

  square_x : ℕ → ℕ → ℕ → List (Side Edge)
  square_x x y z =
      around (g x y z) (g x (y + 1) z) (g x (y + 1) (z + 1)) (g x y (z + 1))
      (edge_at 1 x y z) (edge_at 2 x (y + 1) z) (edge_at 1 x y (z + 1)) (edge_at 2 x y z)

  square_y : ℕ → ℕ → ℕ → List (Side Edge)
  square_y x y z =
      around (g x y z) (g x y (z + 1)) (g (x + 1) y (z + 1)) (g (x + 1) y z)
      (edge_at 2 x y z) (edge_at 0 x y (z + 1)) (edge_at 2 (x + 1) y z) (edge_at 0 x y z)

  square_z : ℕ → ℕ → ℕ → List (Side Edge)
  square_z x y z =
      around (g x y z) (g (x + 1) y z) (g (x + 1) (y + 1) z) (g x (y + 1) z)
      (edge_at 0 x y z) (edge_at 1 (x + 1) y z) (edge_at 0 x (y + 1) z) (edge_at 1 x y z)

  -- the faces of a cell are three squares turned round and the next three
  faces-squares : (x y z : ℕ)
      → cell_faces x y z
      ≡ turned (square_x x y z) ++ (square_x (x + 1) y z ++ (turned (square_y x y z) ++ (square_y x (y + 1) z ++ (turned (square_z x y z) ++ (square_z x y (z + 1) ++ [])))))
  unfolding cell_faces cell_signs faces_sides face_sides square_sides square_x square_y square_z
  faces-squares x y z = refl

  count-faces : (a b : Edge) (x y z : ℕ)
      → count same a b (cell_faces x y z)
      ≡ count same b a (square_x x y z) + (count same a b (square_x (x + 1) y z)
      + (count same b a (square_y x y z) + (count same a b (square_y x (y + 1) z)
      + (count same b a (square_z x y z) + count same a b (square_z x y (z + 1))))))
  unfolding count
  count-faces a b x y z = ap (count same a b) (faces-squares x y z) ∙ simp (count-append, count-turned) (omega arith)

  -- a square's sides join edges of its plane
  self : (c : ℕ) → eqb c c ≡ true
  self c = eq-eqb c c refl

  square_x-lies : (x y z : ℕ) → all_between (lies_in (plane 0 x)) (square_x x y z) ≡ true
  unfolding square_x lies_in
  square_x-lies x y z = between-around (lies_in (plane 0 x)) _ _ _ _ _ _ _ _ (self x) (self x) (self x) (self x)

  square_y-lies : (x y z : ℕ) → all_between (lies_in (plane 1 y)) (square_y x y z) ≡ true
  unfolding square_y lies_in
  square_y-lies x y z = between-around (lies_in (plane 1 y)) _ _ _ _ _ _ _ _ (self y) (self y) (self y) (self y)

  square_z-lies : (x y z : ℕ) → all_between (lies_in (plane 2 z)) (square_z x y z) ≡ true
  unfolding square_z lies_in
  square_z-lies x y z = between-around (lies_in (plane 2 z)) _ _ _ _ _ _ _ _ (self z) (self z) (self z) (self z)

-- ---- all cells

-- of two edges that are not both in one of the planes, one is not in the plane at place i
in_one_of-at : (ps : List Plane) (a b : Edge) → in_one_of ps a b ≡ false → (i : ℕ) → i < length ps
    → (lies_in (get_or ps i (plane 3 0)) a && lies_in (get_or ps i (plane 3 0)) b) ≡ false
unfolding in_one_of
in_one_of-at [] a b h i l = absurd (not-suc-le-zero l)
in_one_of-at (p ∷ ps) a b h zero l = or-none-left (lies_in p a && lies_in p b) (in_one_of ps a b) h
in_one_of-at (p ∷ ps) a b h (suc i) l = in_one_of-at ps a b (or-none-right (lies_in p a && lies_in p b) (in_one_of ps a b) h) i (le_of_suc-le-suc l)

pub in_one_of-comm : (ps : List Plane) (a b : Edge) → in_one_of ps a b ≡ in_one_of ps b a
unfolding in_one_of
in_one_of-comm [] a b = refl
in_one_of-comm (p ∷ ps) a b = rw (in_one_of-comm ps a b, and_comm (lies_in p a) (lies_in p b))

module _ (g : Inside) (n layers : ℕ) where
  abbrev total : (Edge → Edge → ℕ → ℕ → ℕ → ℕ) → Edge → Edge → ℕ
  total f a b = sum_cells layers (n - 1) (λ x y z. f a b x y z)

  abbrev in_x : Edge → Edge → ℕ → ℕ → ℕ → ℕ
  in_x a b x y z = count same a b (square_x g x y z)

  abbrev in_y : Edge → Edge → ℕ → ℕ → ℕ → ℕ
  in_y a b x y z = count same a b (square_y g x y z)

  abbrev in_z : Edge → Edge → ℕ → ℕ → ℕ → ℕ
  in_z a b x y z = count same a b (square_z g x y z)

  abbrev in_faces : Edge → Edge → ℕ → ℕ → ℕ → ℕ
  in_faces a b x y z = count same a b (cell_faces g x y z)

  module _ (a b : Edge) (inner : in_one_of (outer_faces n layers) a b ≡ false) where
    none : (p : Plane) (l : List (Side Edge)) → all_between (lies_in p) l ≡ true → (lies_in p a && lies_in p b) ≡ false → count same a b l ≡ 0
    none p l t h = count-between (lies_in p) same same_true a b l t h

    shift-x : sum_cells layers (n - 1) (λ x y z. in_x a b (x + 1) y z) ≡ total in_x a b
    shift-x =
        sum_cells-along-x layers (n - 1) (in_x a b)
        (λ y z. none (plane 0 0) _ (square_x-lies g 0 y z) (in_one_of-at (outer_faces n layers) a b inner 0 (lit< tt)))
        (λ y z. none (plane 0 (n - 1)) _ (square_x-lies g (n - 1) y z) (in_one_of-at (outer_faces n layers) a b inner 1 (lit< tt)))

    shift-y : sum_cells layers (n - 1) (λ x y z. in_y a b x (y + 1) z) ≡ total in_y a b
    shift-y =
        sum_cells-along-y layers (n - 1) (in_y a b)
        (λ x z. none (plane 1 0) _ (square_y-lies g x 0 z) (in_one_of-at (outer_faces n layers) a b inner 2 (lit< tt)))
        (λ x z. none (plane 1 (n - 1)) _ (square_y-lies g x (n - 1) z) (in_one_of-at (outer_faces n layers) a b inner 3 (lit< tt)))

    shift-z : sum_cells layers (n - 1) (λ x y z. in_z a b x y (z + 1)) ≡ total in_z a b
    shift-z =
        sum_cells-along-z layers (n - 1) (in_z a b)
        (λ x y. none (plane 2 0) _ (square_z-lies g x y 0) (in_one_of-at (outer_faces n layers) a b inner 4 (lit< tt)))
        (λ x y. none (plane 2 layers) _ (square_z-lies g x y layers) (in_one_of-at (outer_faces n layers) a b inner 5 (lit< tt)))

    -- the faces of all cells together: every square one way and the other
    faces-total : total in_faces a b
        ≡ total in_x b a + (total in_x a b + (total in_y b a + (total in_y a b + (total in_z b a + total in_z a b))))
    faces-total =
        let m : ℕ = n - 1 in
        let e = sum_cells-eq layers m (in_faces a b) _ (count-faces g a b) in
        let s5 = sum_cells-add layers m (in_z b a) (λ x y z. in_z a b x y (z + 1)) in
        let s4 = sum_cells-add layers m (λ x y z. in_y a b x (y + 1) z) (λ x y z. in_z b a x y z + in_z a b x y (z + 1)) in
        let s3 = sum_cells-add layers m (in_y b a) (λ x y z. in_y a b x (y + 1) z + (in_z b a x y z + in_z a b x y (z + 1))) in
        let s2 =
        sum_cells-add layers m (λ x y z. in_x a b (x + 1) y z) (λ x y z. in_y b a x y z + (in_y a b x (y + 1) z + (in_z b a x y z + in_z a b x y (z + 1)))) in
        let s1 =
        sum_cells-add layers m (in_x b a)
        (λ x y z. in_x a b (x + 1) y z + (in_y b a x y z + (in_y a b x (y + 1) z + (in_z b a x y z + in_z a b x y (z + 1))))) in
        let px = shift-x in
        let py = shift-y in
        let pz = shift-z in
        omega arith

  -- over all cells, as many sides run from a to b as from b to a
  pub cells-balanced : (a b : Edge) → in_one_of (outer_faces n layers) a b ≡ false → total (in_cell g) a b ≡ total (in_cell g) b a
  cells-balanced a b inner =
      let there = faces-total a b inner in
      let back = faces-total b a (in_one_of-comm (outer_faces n layers) b a ∙ inner) in
      let e =
      sum_cells-eq layers (n - 1) (λ x y z. in_cell g a b x y z + in_faces b a x y z) (λ x y z. in_cell g b a x y z + in_faces a b x y z) (cell-net g a b) in
      let p = sum_cells-add layers (n - 1) (in_cell g a b) (in_faces b a) in
      let q = sum_cells-add layers (n - 1) (in_cell g b a) (in_faces a b) in
      omega arith
