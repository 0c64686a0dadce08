-- Loops whose turns are steps of a walk: so many are done, the indices have grown by at most so many, and no more vertices are counted than indices.
-- For any state that counts both; the walk over lent memory and the count alone cite these.
use mathlib.Core.Path.{◌≡◌, refl, sym, ap, ◌∙◌}
use Prim.Native.Nat.{ℕ, zero, suc, ◌+◌, ◌-◌, ◌*◌, ◌≤◌, ◌<◌, min}
use native.Mathlib.Numerals.{add-one}
use native.Mathlib.Omega.{arith}
use Rattle.walk.specs.Walk.{times}
use Rattle.walk_models.specs.Owned.{Count}
use Rattle.sign_cells.specs.Cells.{cells_in}
use Rattle.sign_cells.proofs.SetBits.{times-word}

pub record Reached {S : Type 0} (count : S → Count) (step : ℕ → S → S) (start here : S) (turns growth : ℕ) : Type 0 where
  pub state : here ≡ times turns step start
  pub grown : (count here).written ≤ (count start).written + growth
  pub ordered : (count here).made ≤ (count here).written

module _ {S : Type 0} (count : S → Count) (step : ℕ → S → S) (start : S) where
  pub reached-none : (most : ℕ) → (count start).made ≤ (count start).written → Reached count step start start 0 (most * 0)
  unfolding times
  reached-none most h = record { state = refl; grown = omega arith; ordered = h }

  -- one turn more, where no turn adds more than `most` indices
  pub reached-next : (most turns : ℕ) (here next : S) → Reached count step start here turns (most * turns) → next ≡ step turns here
      → (count next).written ≤ (count here).written + most → (count next).made ≤ (count next).written
      → Reached count step start next (turns + 1) (most * (turns + 1))
  unfolding times
  reached-next most turns here next r e g o =
      let grown = r.grown in
      record {
        state = e ∙ ap (step turns) r.state ∙ ap (λ (k : ℕ). times k step start) (sym (add-one turns));
        grown = omega arith;
        ordered = o;
      }

  pub reached-all : (turns all growth : ℕ) (here : S) → turns ≡ all → Reached count step start here turns growth → here ≡ times all step start
  reached-all turns all growth here e r = r.state ∙ ap (λ (k : ℕ). times k step start) e

  -- ---- a row, word after word

  -- no word yet
  pub reached-no-word : (n : ℕ) → (count start).made ≤ (count start).written → Reached count step start start (min (32 * 0) (n - 1)) (480 * 0)
  unfolding times
  reached-no-word n h =
      let none : 0 ≡ min (32 * 0) (n - 1) = omega arith in
      record { state = ap (λ (k : ℕ). times k step start) none; grown = omega arith; ordered = h }

  -- the cells of one word more of a row of n - 1 cells
  pub reached-word : (n k : ℕ) (here next : S) → 32 * k < n - 1 → Reached count step start here (min (32 * k) (n - 1)) (480 * k)
      → next ≡ times (cells_in n k) (λ i t. step (32 * k + i) t) here → (count next).written ≤ (count here).written + 480 → (count next).made ≤ (count next).written
      → Reached count step start next (min (32 * (k + 1)) (n - 1)) (480 * (k + 1))
  reached-word n k here next h r e g o =
      let grown = r.grown in
      let within : 32 * k ≤ n - 1 = omega arith in
      record {
        state = e ∙ ap (times (cells_in n k) (λ i t. step (32 * k + i) t)) r.state ∙ sym (times-word step start (n - 1) k within);
        grown = omega arith;
        ordered = o;
      }

  -- all words are done
  pub reached-row : (n k : ℕ) (here : S) → n - 1 ≤ 32 * k → Reached count step start here (min (32 * k) (n - 1)) (480 * k) → here ≡ times (n - 1) step start
  reached-row n k here h r =
      let all : min (32 * k) (n - 1) ≡ n - 1 = omega arith in
      r.state ∙ ap (λ (c : ℕ). times c step start) all

-- a row whose steps do nothing
pub times-idle : {S : Type 0} (step : ℕ → S → S) (start : S) (turns : ℕ) → ((i : ℕ) → i < turns → step i start ≡ start) → start ≡ times turns step start
unfolding times
times-idle step start zero idle = refl
times-idle step start (suc k) idle =
    sym (idle k (omega arith)) ∙ ap (step k) (times-idle step start k (λ i h. idle i (omega arith)))
