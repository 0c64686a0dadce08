-- The sums that the code makes of set bits, over the cells of a mask, and that they come to the triangles and the new edges of these cells.
use mathlib.Core.Path.{◌≡◌, sym, ◌∙◌, ap, ap₂}
use mathlib.Core.Bool.{Bool}
use Prim.Native.Nat.{ℕ, ◌+◌, ◌*◌, ◌/◌, ◌≤◌}
use lib.ListN.{length}
use Rattle.walk.specs.Walk.{bit}
use Rattle.cell_tally.specs.declared.Corners.{Corners}
use Rattle.corner_signs.specs.Signs.{row_of, inside_at, faces_at, whole_at, opposite_at, crossing_at}
use Rattle.cell_tally.specs.Tally.{corner, is_set, in_mask, set_in, of_signs, triangles_in, new_in}
use Rattle.cell_tally.proofs.Sums.{in_mask-same, in_mask-add, in_mask-times, in_mask-le}
use Rattle.corner_signs.proofs.Identities.{triangles-hold, new-hold, row-most}

-- a is what f comes to over the cells of the mask
pub record Comes (mask : ℕ) (f : ℕ → ℕ) (a : ℕ) : Type 0 where
  pub equal : a ≡ in_mask mask f

pub comes-plus : {mask a b : ℕ} {f g : ℕ → ℕ} → Comes mask f a → Comes mask g b → Comes mask (λ i. f i + g i) (a + b)
comes-plus {mask} {a} {b} {f} {g} p q = record { equal = ap₂ ◌+◌ p.equal q.equal ∙ in_mask-add mask f g }

-- the set bits of a word, where its bits are known
pub comes-set : {a mask : ℕ} (word : ℕ) (f : ℕ → Bool) → a ≡ set_in word mask → ((i : ℕ) → is_set word i ≡ f i) → Comes mask (λ i. bit (f i)) a
comes-set {a} {mask} word f e h = record { equal = e ∙ in_mask-same mask _ _ (λ i. ap bit (h i)) }

module _ (c : Corners) (mask : ℕ) where
  -- what is taken away is no more than what there is
  pub triangles-balance : in_mask mask (of_signs inside_at c) + 4 * in_mask mask (of_signs whole_at c)
      ≡ triangles_in c mask + 2 * in_mask mask (of_signs faces_at c) + 4 * in_mask mask (of_signs opposite_at c)
  triangles-balance =
      ap (λ (x : ℕ). in_mask mask (of_signs inside_at c) + x) (in_mask-times mask 4 (of_signs whole_at c))
      ∙ in_mask-add mask (of_signs inside_at c) (λ i. 4 * of_signs whole_at c i)
      ∙ in_mask-same mask _ _ (λ i. triangles-hold (is_set (corner c 0) i) (is_set (corner c 1) i) (is_set (corner c 2) i) (is_set (corner c 3) i) (is_set (corner c 4) i) (is_set (corner c 5) i) (is_set (corner c 6) i) (is_set (corner c 7) i))
      ∙ sym (ap₂ (λ (x y : ℕ). triangles_in c mask + x + y) (in_mask-times mask 2 (of_signs faces_at c)) (in_mask-times mask 4 (of_signs opposite_at c))
      ∙ ap (λ (x : ℕ). x + in_mask mask (λ i. 4 * of_signs opposite_at c i)) (in_mask-add mask (λ i. length (of_signs row_of c i) / 3) (λ i. 2 * of_signs faces_at c i))
      ∙ in_mask-add mask (λ i. length (of_signs row_of c i) / 3 + 2 * of_signs faces_at c i) (λ i. 4 * of_signs opposite_at c i))

  pub triangles-most : triangles_in c mask ≤ 160
  triangles-most = in_mask-le mask (λ i. length (of_signs row_of c i) / 3) 5 (λ i. row-most (is_set (corner c 0) i) (is_set (corner c 1) i) (is_set (corner c 2) i) (is_set (corner c 3) i) (is_set (corner c 4) i) (is_set (corner c 5) i) (is_set (corner c 6) i) (is_set (corner c 7) i))

  pub new-comes : (first top : ℕ) → in_mask mask (λ i. of_signs (crossing_at (is_set first i) (is_set top i)) c i) ≡ new_in c mask first top
  new-comes first top = in_mask-same mask _ _ (λ i. sym (new-hold (is_set first i) (is_set top i) (is_set (corner c 0) i) (is_set (corner c 1) i) (is_set (corner c 2) i) (is_set (corner c 3) i) (is_set (corner c 4) i) (is_set (corner c 5) i) (is_set (corner c 6) i) (is_set (corner c 7) i)))
