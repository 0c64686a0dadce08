-- The new edges of a row are edges of the row: none is out of range.
use mathlib.Core.Bool.{Bool, true, false, cond, not, ◌&&◌}
use mathlib.Core.List.{List, [], ◌∷◌}
use Prim.Native.Nat.{ℕ}
use lib.Dec.{eqb}
use Rattle.walk.specs.Ownership.{new_edges}
use Rattle.packed_tables.specs.Unpacked.{Edges}

of_either : (P : List ℕ → Type 0) (b : Bool) (l m : List ℕ) → P l → P m → P (cond b l m)
of_either P true l m hl hm = hl
of_either P false l m hl hm = hm

pub new_edges-edges : (new : ℕ → Bool) (r : List ℕ) → Edges r → Edges (new_edges new r)
unfolding Edges new_edges
new_edges-edges new [] es = tt
new_edges-edges new (e ∷ r) es =
    let later : ℕ → Bool = λ d. new d && not (eqb d e) in
    of_either Edges (new e) (e ∷ new_edges later r) (new_edges new r) (es.0, new_edges-edges later r es.1) (new_edges-edges new r es.1)
