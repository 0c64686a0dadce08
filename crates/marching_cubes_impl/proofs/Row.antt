-- Laws of the edges that a row names and of the padded list that holds them, for the loop that reads the row.
use mathlib.Core.Path.{◌≡◌, refl, ◌∙◌, ap}
use mathlib.Core.Bool.{true, false, true≢false}
use mathlib.Core.Logic.{⊎_elim}
use mathlib.Core.List.{List, [], ◌∷◌}
use Prim.Native.Nat.{ℕ, zero, suc, ◌≤◌, ◌<◌}
use native.Mathlib.Nat.{le_of_suc-le-suc, not-suc-le-zero}
use native.Mathlib.Omega.{arith}
use borrow.Author.Tests.{ltb-true}
use lib.Signed.{lt_z}
use lib.IntN.{ℤ, pos}
use lib.ListN.{length, get_or, take, set}
use Rattle.marching_cubes_tables.specs.Tables.{row}
use Rattle.marching_cubes_tables.specs.Rule.{row_edges}
use Rattle.marching_cubes_tables.proofs.Tests.{lt-or-ge}
use Rattle.marching_cubes_tables.proofs.Rule.{row-rule}
use Rattle.marching_cubes_impl.specs.Cell.{padded}

-- the next edge stored behind the first k
pub padded-set : (n : ℕ) (es : List ℕ) (k : ℕ) → k < length es → k < n → set (padded n (take k es)) k (pos (get_or es k 0)) ≡ padded n (take (suc k) es)
padded-set zero es k h l = absurd (not-suc-le-zero l)
padded-set (suc n) [] k h l = absurd (not-suc-le-zero h)
padded-set (suc n) (e ∷ es) zero h l = refl
padded-set (suc n) (e ∷ es) (suc k) h l = ap (λ (t : List ℤ). pos e ∷ t) (padded-set n es k (le_of_suc-le-suc h) (le_of_suc-le-suc l))

module _ (s k : ℕ) (z : ℤ) (byte : s < 256) (within : k < 16) (entry : z ≡ get_or (row s) k (pos 0)) where
  -- a negative entry: the row's edges end here
  pub row_edges-end : k ≤ length (row_edges s) → lt_z z (pos 0) ≡ true → k ≡ length (row_edges s)
  row_edges-end l t =
      ⊎_elim
      (λ h.
      let q : z ≡ pos (get_or (row_edges s) k 0) = entry ∙ (row-rule s byte).first k h in
      let b : get_or (row_edges s) k 0 < 0 = ltb-true _ 0 (rw q at t) in
      omega arith)
      (λ h. omega arith)
      (lt-or-ge k (length (row_edges s)))

  -- another entry: it is the row's next edge
  pub row_edges-next : lt_z z (pos 0) ≡ false → (k < length (row_edges s)) × (z ≡ pos (get_or (row_edges s) k 0))
  row_edges-next t =
      ⊎_elim
      (λ h. (h, entry ∙ (row-rule s byte).first k h))
      (λ h. absurd (true≢false (rw (entry ∙ (row-rule s byte).rest k h within) at t)))
      (lt-or-ge k (length (row_edges s)))
