-- The twelve slots of a cell: those of `slots` are the slots of the cell's edges, and they are in the working memory.
use mathlib.Core.Path.{◌≡◌, subst, sym}
use mathlib.Core.List.{List, [], ◌∷◌}
use Prim.Native.Nat.{ℕ, zero, suc, ◌+◌, ◌-◌, ◌*◌, ◌%◌, ◌<◌, ◌≤◌}
use native.Mathlib.Nat.{mul-le-mul}
use native.Mathlib.Omega.{arith}
use lib.ListN.{get_or}
use Rattle.marching_cubes_tables.specs.Tables.{corners, edge_connection}
use Rattle.walk.specs.Edges.{axis_of, low_offset, edge_of}
use Rattle.walk_models.specs.Owned.{edge_visit, slot}
use Rattle.walk_models.proofs.Window.{edge_of-live, slot_lt}
use Rattle.joined_slots.specs.OneCell.{Slots, SlotsFrom}

abbrev twelve : ℕ → ℕ → List ℕ
twelve n z =
    z % 2 ∷ (10 + z % 2) ∷ (8 * n + z % 2) ∷ (2 + z % 2) ∷
    (1 - z % 2) ∷ (10 + (1 - z % 2)) ∷ (8 * n + (1 - z % 2)) ∷ (2 + (1 - z % 2)) ∷
    4 ∷ 12 ∷ (8 * n + 12) ∷ (8 * n + 4) ∷ []

twelve-slots : (n z : ℕ) → Slots n z (twelve n z)
unfolding Slots slot edge_of axis_of low_offset corners edge_connection
twelve-slots n z x y zero h = omega arith
twelve-slots n z x y (suc zero) h = omega arith
twelve-slots n z x y (suc (suc zero)) h = omega arith
twelve-slots n z x y (suc (suc (suc zero))) h = omega arith
twelve-slots n z x y (suc (suc (suc (suc zero)))) h = omega arith
twelve-slots n z x y (suc (suc (suc (suc (suc zero))))) h = omega arith
twelve-slots n z x y (suc (suc (suc (suc (suc (suc zero)))))) h = omega arith
twelve-slots n z x y (suc (suc (suc (suc (suc (suc (suc zero))))))) h = omega arith
twelve-slots n z x y (suc (suc (suc (suc (suc (suc (suc (suc zero)))))))) h = omega arith
twelve-slots n z x y (suc (suc (suc (suc (suc (suc (suc (suc (suc zero))))))))) h = omega arith
twelve-slots n z x y (suc (suc (suc (suc (suc (suc (suc (suc (suc (suc zero)))))))))) h = omega arith
twelve-slots n z x y (suc (suc (suc (suc (suc (suc (suc (suc (suc (suc (suc zero))))))))))) h = omega arith
twelve-slots n z x y (suc (suc (suc (suc (suc (suc (suc (suc (suc (suc (suc (suc e)))))))))))) h = absurd (omega arith)

pub slots_hold : (n z : ℕ) (l : List ℕ) → l ≡ twelve n z → Slots n z l
slots_hold n z l e = subst (Slots n z) (sym e) (twelve-slots n z)

pub slots-from : (at n x y z : ℕ) (l : List ℕ) → Slots n z l → at ≡ 8 * (y * n + x) → SlotsFrom at l n x y z
unfolding Slots
slots-from at n x y z l h e = subst (λ (k : ℕ). SlotsFrom k l n x y z) (sym e) (h x y)

-- those of a cell of the grid are among the first words of the working memory, eight for each place
pub slot-in-work : (at n x y z e : ℕ) (slots : List ℕ) → SlotsFrom at slots n x y z → x + 1 < n → y + 1 < n → e < 12 → at + get_or slots e 0 < 8 * (n * n)
slot-in-work at n x y z e slots places hx hy he =
    let live = edge_of-live n x y z e (omega arith) (omega arith) he in
    let l = slot_lt n z (edge_of (edge_visit x y z e)) live in
    let p = places e he in
    omega arith

-- which are few enough to be counted
pub slot-small : (n place : ℕ) → n ≤ 128 → place < 8 * (n * n) → place < 131072
slot-small n place h l = let most : n * n ≤ 128 * 128 = mul-le-mul h h in omega arith
