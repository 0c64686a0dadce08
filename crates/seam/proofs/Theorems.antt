-- CR 9, in the words of `specs/Seam.antt`. The argument: every row of the table passes one computed test (`RowTest.antt`; `RowFaces.antt` has it in
-- the words of CR 9), the squares between cells cancel in the sum (`Squares.antt`), and joined indices are one to one with grid edges
-- (`IndexNames.antt`).
use mathlib.Core.Path.{◌≡◌, sym, ap, ap₂, ◌∙◌, subst}
use mathlib.Core.List.{List, []}
use Prim.Native.Nat.{ℕ}
use lib.ListN.{length, take, drop}
use lib.Seq.{take-append_seam}
use lib.Ieee.{Float}
use Rattle.walk.specs.Walk.{Inside}
use Rattle.walk.specs.Numbering.{mesh, joined}
use Rattle.lent_mesh.specs.Grid.{inside_of}
use Rattle.outcome.specs.Outcome.{Outcome, left, surface_of, over, outcome}
use Rattle.outcome.specs.declared.Answer.{Answer}
use Rattle.seam.specs.Seam.{edge_of_vertex, NoOpenSeam}
use Rattle.seam.proofs.Squares.{cells-balanced}
use Rattle.seam.proofs.VisitedSides.{visits-sides}
use Rattle.seam.proofs.IndexNames.{indices-sides}
use Rattle.seam.proofs.Triangles.{triangles-balanced}
use Rattle.seam.proofs.Done.{outcome-done}

-- The joined mesh of any grid, of any size and any number of layers of cells, has no open seam inside the box.
pub no-open-seam : (g : Inside) (n layers : ℕ) → NoOpenSeam n layers (mesh joined [] g n layers).made (mesh joined [] g n layers).indices
no-open-seam g n layers i j hi hj inner =
    let s = mesh joined [] g n layers in
    let a = edge_of_vertex s.made i in
    let b = edge_of_vertex s.made j in
    triangles-balanced i j s.indices
    (indices-sides g n layers i j hi hj
    ∙ visits-sides g n a b layers
    ∙ cells-balanced g n layers a b inner
    ∙ sym (visits-sides g n b a layers)
    ∙ sym (indices-sides g n layers j i hj hi))

-- What `extract` leaves: where its promise holds of an answer and the three slices at exit, in the joined numbering, and the cause is 0, the first
-- `indices` entries of the index table have no open seam inside the box; `vertices` is the number of vertices.
pub extract-no-open-seam : (n : ℕ) (samples : List Float) (work : List ℕ) (vertices : List Float) (indices : List ℕ)
    → (answer : Answer) (work-left : List ℕ) (vertices-left : List Float) (indices-left : List ℕ)
    → left answer work-left vertices-left indices-left ≡ outcome n 1 samples work vertices indices
    → answer.cause ≡ 0
    → (answer.vertices ≡ length (surface_of n 1 samples).made) × NoOpenSeam n n (surface_of n 1 samples).made (take answer.indices indices-left)
unfolding surface_of
extract-no-open-seam n samples work vertices indices answer work-left vertices-left indices-left promise cause =
    let s = mesh joined [] (inside_of n samples) n n in
    let all = promise ∙ outcome-done n 1 samples work vertices indices (sym (ap (λ (o : Outcome). o.answer.cause) promise) ∙ cause) in
    let count : answer.indices ≡ length s.indices = ap (λ (o : Outcome). o.answer.indices) all in
    let table : indices-left ≡ over s.indices indices = ap (λ (o : Outcome). o.indices) all in
    let written : take answer.indices indices-left ≡ s.indices =
    ap₂ (λ (k : ℕ) (l : List ℕ). take k l) count table ∙ take-append_seam s.indices (drop (length s.indices) indices) in
    (ap (λ (o : Outcome). o.answer.vertices) all, subst (NoOpenSeam n n s.made) (sym written) (no-open-seam (inside_of n samples) n n))
