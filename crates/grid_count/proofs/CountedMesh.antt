-- What the count's code counts is the mesh of its numbering, and nothing past the words that it keeps has changed. For `passes::count`.
use mathlib.Core.Path.{◌≡◌, refl, sym, ap, ◌∙◌, subst}
use mathlib.Core.Bool.{false}
use mathlib.Core.List.{List, []}
use Prim.Native.Nat.{ℕ, suc, ◌+◌, ◌-◌, ◌*◌, ◌%◌, ◌≤◌, ◌<◌}
use native.Mathlib.Nat.{zero-mul, suc-mul, add-suc}
use native.Mathlib.Numerals.{add-one}
use native.Mathlib.Omega.{arith}
use lib.Dec.{eqb}
use lib.ListN.{length, get_or, drop}
use Rattle.walk.specs.Walk.{Inside, cells, rows, walk}
use Rattle.walk.specs.Cache.{Cache, fresh}
use Rattle.walk.specs.Numbering.{Mesh, empty, hooks, mesh, joined, crate}
use Rattle.walk.proofs.WalkInduction.{times-kept}
use Rattle.walk_models.specs.Owned.{Count, count_cell, cells_of_row, cells_of_layer, cells_of_grid}
use Rattle.walk_models.proofs.JoinedCells.{count-cells}
use Rattle.row_walk.specs.Steps.{layer_parity, row_parity}
use Rattle.grid_walk.proofs.Layers.{parity-next}
use Rattle.held_bits.specs.HeldCell.{Held, held_room}
use Rattle.held_bits.proofs.HeldBorder.{Border, cell-kept, row-end-kept, layer-end-kept, start-border}
use Rattle.row_count.specs.Steps.{count_in, count_step}
use Rattle.grid_count.specs.Steps.{end_step, count_steps}

pub record CountedMesh {C : Type 0} (n : ℕ) (old : List ℕ) (s : Mesh C) (t : Held) : Type 0 where
  pub made : t.made ≡ length s.made
  pub written : t.written ≡ length s.indices
  pub size : length t.work ≡ length old
  pub tail : drop (held_room n) t.work ≡ drop (held_room n) old

abbrev pub nothing : List ℕ → Held
nothing old = record { work = old; made = 0; written = 0 }

module _ (n : ℕ) (g : Inside) (old : List ℕ) (room : held_room n ≤ length old) where
  -- ---- crate

  turned : (k : ℕ) → 1 - k % 2 ≡ suc k % 2
  turned k = parity-next k (k % 2) refl ∙ ap (λ (j : ℕ). j % 2) (add-one k)

  abbrev Beside : ℕ → ℕ → Mesh Cache → Held → Type 0
  Beside z y s t = Border n old room (layer_parity z) (row_parity n z y) s t

  border-at : (l m r q : ℕ) (s : Mesh Cache) (t : Held) → l ≡ m → r ≡ q → Border n old room l r s t → Border n old room m q s t
  border-at l m r q s t e f b = subst (λ (k : ℕ). Border n old room k q s t) e (subst (λ (k : ℕ). Border n old room l k s t) f b)

  row-beside : (z y : ℕ) (s : Mesh Cache) (t : Held) → y < n - 1 → Beside z y s t
      → Beside z (suc y) ((hooks (crate n)).row_end (cells (hooks (crate n)) g n z y (n - 1) s)) (cells_of_row (count_step 0 n g) n z y (n - 1) t)
  unfolding cells cells_of_row count_step
  row-beside z y s t h b =
      let next : 1 - row_parity n z y ≡ row_parity n z (suc y) = turned (z * (n - 1) + y) ∙ ap (λ (k : ℕ). k % 2) (sym (add-suc (z * (n - 1)) y)) in
      border-at _ _ _ _ _ _ refl next
      (row-end-kept n old room (layer_parity z) (row_parity n z y) _ _
      (times-kept (λ x. Beside z y) _ _ (n - 1) (λ x a c l e. cell-kept n old room g z y x (layer_parity z) (row_parity n z y) a c (omega arith) (omega arith) e) s t b))

  layer-beside : (z : ℕ) (s : Mesh Cache) (t : Held) → Beside z 0 s t
      → Beside (suc z) 0 ((hooks (crate n)).layer_end z (rows (hooks (crate n)) g n z (n - 1) s)) (end_step 0 n g z (cells_of_layer (count_step 0 n g) n z (n - 1) t))
  unfolding rows cells_of_layer end_step
  layer-beside z s t b =
      let rows-done : row_parity n z (n - 1) ≡ row_parity n (suc z) 0 = ap (λ (k : ℕ). k % 2) (omega (arith, suc-mul z (n - 1))) in
      border-at _ _ _ _ _ _ (turned z) refl
      (layer-end-kept n old room (layer_parity z) (row_parity n (suc z) 0) z _ _
      (border-at _ _ _ _ _ _ refl rows-done
      (times-kept (λ y. Beside z y) _ _ (n - 1) (λ y a c l e. row-beside z y a c l e) s t b)))

  pub crate-counted : (layers : ℕ) → ((i : ℕ) → i < held_room n → get_or old i 0 ≡ 0)
      → CountedMesh n old (mesh (crate n) fresh g n layers) (count_steps 0 n g layers (nothing old))
  unfolding mesh walk count_steps
  crate-counted layers zeros =
      let none : 0 ≡ row_parity n 0 0 = ap (λ (k : ℕ). (k + 0) % 2) (sym (zero-mul (n - 1))) in
      let start : Beside 0 0 (empty fresh) (nothing old) = border-at _ _ _ _ _ _ refl none (start-border n old room zeros) in
      let end = times-kept (λ z. Beside z 0) _ _ layers (λ z a c l e. layer-beside z a c e) (empty fresh) (nothing old) start in
      record { made = end.made; written = end.written; size = end.bits.size; tail = end.bits.tail }

  -- ---- joined

  record Alike (t : Held) (c : Count) : Type 0 where
    count : count_in t ≡ c
    work : t.work ≡ old

  module _ (numbering : ℕ) (other : eqb numbering 0 ≡ false) where
    cell-alike : (z y x : ℕ) (t : Held) (c : Count) → Alike t c → Alike (count_step numbering n g z y x t) (count_cell g z y x c)
    unfolding count_step
    cell-alike z y x t c a = rw other (record { count = ap (count_cell g z y x) a.count; work = a.work })

    layer-alike : (z : ℕ) (t : Held) (c : Count) → Alike t c
        → Alike (end_step numbering n g z (cells_of_layer (count_step numbering n g) n z (n - 1) t)) (cells_of_layer (count_cell g) n z (n - 1) c)
    unfolding cells_of_layer cells_of_row end_step
    layer-alike z t c a =
        rw other
        (times-kept (λ y. Alike) _ _ (n - 1) (λ y a c l e. times-kept (λ x. Alike) _ _ (n - 1) (λ x a c l e. cell-alike z y x a c e) a c e) t c a)

    pub joined-counted : (layers : ℕ) → CountedMesh n old (mesh joined [] g n layers) (count_steps numbering n g layers (nothing old))
    unfolding count_steps cells_of_grid
    joined-counted layers =
        let end = times-kept (λ z. Alike) _ _ layers (λ z a c l e. layer-alike z a c e) (nothing old) (record { made = 0; written = 0 }) (record { count = refl; work = refl }) in
        let all = end.count ∙ count-cells g n layers in
        record {
          made = ap (λ (c : Count). c.made) all;
          written = ap (λ (c : Count). c.written) all;
          size = ap length end.work;
          tail = ap (drop (held_room n)) end.work;
        }
