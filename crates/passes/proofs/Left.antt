-- What the walk's code leaves is the defined mesh, stored from the start, in either numbering, though it stops after the last layer that adds something; and
-- the working memory past what the size asks for is as it was.
use mathlib.Core.Path.{◌≡◌, refl, sym, ap, ◌∙◌, subst}
use mathlib.Core.Bool.{true, false}
use mathlib.Core.Logic.{⊎_elim}
use mathlib.Core.List.{List}
use Prim.Native.Nat.{ℕ, ◌+◌, ◌-◌, ◌*◌, ◌%◌, ◌≤◌, ◌<◌}
use native.Mathlib.Nat.{zero-mul}
use native.Mathlib.Omega.{arith}
use lib.Dec.{eqb}
use lib.ListN.{length, get_or, drop, replicate}
use lib.Seq.{sets, drop-drop}
use lib.Ieee.{Float}
use borrow.Author.Tests.{eqb-true}
use Rattle.walk.specs.Walk.{visits}
use Rattle.walk.proofs.Bools.{bool_cases}
use Rattle.walk.proofs.WalkInduction.{times-kept}
use Rattle.walk_models.specs.Lent.{Lent, untouched, store_all}
use Rattle.walk_models.specs.CacheMemory.{CacheMemory}
use Rattle.walk_models.specs.Owned.{owned_cell, cells_of_row, cells_of_layer, cells_of_grid}
use Rattle.walk_models.proofs.OwnedWalk.{owned-walk}
use Rattle.walk_models.proofs.CacheWalk.{cache-walk}
use Rattle.lent_mesh.specs.Grid.{inside_of}
use Rattle.lent_mesh.specs.Stored.{store_at}
use Rattle.outcome.specs.Outcome.{work_room, Surface, surface_of}
use Rattle.grid_walk.specs.declared.Span.{Span}
use Rattle.grid_walk.specs.Growth.{GrowsWithin}
use Rattle.row_walk.specs.Steps.{Hand, row_parity, cell_step}
use Rattle.grid_walk.specs.Steps.{layer_step, walk_steps}
use Rattle.grid_walk.proofs.CrateSteps.{walk-beside}
use Rattle.grid_walk.proofs.IdleLayers.{walk_steps-ended}

pub record LeftOf (n : ℕ) (samples : List Float) (s : Surface) (floats : List Float) (list old : List ℕ) (t : Hand) : Type 0 where
  pub made : t.made ≡ length s.made
  pub written : t.written ≡ length s.indices
  pub vertices-are : t.vertices ≡ store_all (store_at n samples) 0 s.made floats
  pub indices-are : t.indices ≡ sets list 0 s.indices
  pub size : length t.memory ≡ length old
  pub tail : drop (work_room n) t.memory ≡ drop (work_room n) old

module _ (n numbering : ℕ) (samples floats : List Float) (list old : List ℕ) (room : work_room n ≤ length old) where
  abbrev end : Hand
  end = walk_steps numbering n samples n (untouched old floats list)

  -- ---- joined

  joined-layer : eqb numbering 0 ≡ false → (z k : ℕ) (s t : Hand) → s ≡ t
      → cells_of_layer (cell_step numbering n samples) n z k s ≡ cells_of_layer (owned_cell (store_at n samples) n (inside_of n samples)) n z k t
  unfolding cells_of_layer cells_of_row cell_step
  joined-layer f z k s t e =
      times-kept (λ y. ◌≡◌ {A = Hand}) _ _ k
      (λ y a b l p. times-kept (λ x. ◌≡◌ {A = Hand}) _ _ (n - 1) (λ x c d m q. rw (f, q)) a b p) s t e

  joined-steps : eqb numbering 0 ≡ false
      → end ≡ cells_of_grid (owned_cell (store_at n samples) n (inside_of n samples)) n n (untouched old floats list)
  unfolding walk_steps cells_of_grid layer_step
  joined-steps f =
      times-kept (λ z. ◌≡◌ {A = Hand}) _ _ n (λ z a b l p. rw f (joined-layer f z (n - 1) a b p)) (untouched old floats list) (untouched old floats list) refl

  joined-left : eqb numbering 0 ≡ false → LeftOf n samples (surface_of n numbering samples) floats list old end
  unfolding surface_of
  joined-left f =
      let w = owned-walk (store_at n samples) floats list old n n (omega arith) (inside_of n samples) in
      let past : (l : List ℕ) → drop (6 * n) (drop (8 * (n * n)) l) ≡ drop (work_room n) l = λ l. drop-drop (6 * n) (8 * (n * n)) l in
      subst (λ (t : Hand). LeftOf n samples (surface_of n numbering samples) floats list old t) (sym (joined-steps f))
      (rw f
      (record {
        made = w.made;
        written = w.written;
        vertices-are = w.vertices;
        indices-are = w.indices;
        size = w.window.size;
        tail = sym (past _) ∙ ap (drop (6 * n)) w.window.tail ∙ past old;
      }))

  -- ---- crate

  crate-left : numbering ≡ 0 → ((i : ℕ) → i < work_room n → get_or old i 0 ≡ 0) → LeftOf n samples (surface_of n numbering samples) floats list old end
  unfolding surface_of
  crate-left e zeros =
      let w = cache-walk n old room (store_at n samples) floats list (inside_of n samples) n zeros in
      let none : row_parity n 0 0 ≡ 0 = ap (λ (k : ℕ). (k + 0) % 2) (zero-mul (n - 1)) in
      let b = walk-beside n samples n (untouched (record { work = old; layer = 0; row = 0; current = replicate 12 0 }) floats list) (untouched old floats list) (rw none) in
      rw e
      (record {
        made = sym (ap (λ (t : Lent CacheMemory (List Float)). t.made) b) ∙ w.made;
        written = sym (ap (λ (t : Lent CacheMemory (List Float)). t.written) b) ∙ w.written;
        vertices-are = sym (ap (λ (t : Lent CacheMemory (List Float)). t.vertices) b) ∙ w.vertices;
        indices-are = sym (ap (λ (t : Lent CacheMemory (List Float)). t.indices) b) ∙ w.indices;
        size = sym (ap (λ (t : Lent CacheMemory (List Float)). length t.memory.work) b) ∙ w.size;
        tail = sym (ap (λ (t : Lent CacheMemory (List Float)). drop (work_room n) t.memory.work) b) ∙ w.tail;
      })

  -- ---- either: the crate numbering finds the memory zero
  walk_steps-left : (numbering ≡ 0 → (i : ℕ) → i < work_room n → get_or old i 0 ≡ 0) → LeftOf n samples (surface_of n numbering samples) floats list old end
  walk_steps-left zeros =
      ⊎_elim (λ (t : eqb numbering 0 ≡ true). let e : numbering ≡ 0 = eqb-true numbering 0 t in crate-left e (zeros e)) (λ (f : eqb numbering 0 ≡ false). joined-left f)
      (bool_cases (eqb numbering 0))

  -- the walk that stops after the last layer of the span
  pub span_left : (span : Span) → GrowsWithin (λ k. length (visits (inside_of n samples) n k)) n span
      → work_room n ≤ length (walk_steps numbering n samples span.last (untouched old floats list)).memory → ((i : ℕ) → i < work_room n → get_or old i 0 ≡ 0)
      → LeftOf n samples (surface_of n numbering samples) floats list old (walk_steps numbering n samples span.last (untouched old floats list))
  span_left span within enough zeros =
      let m = walk_steps-ended numbering n samples span within (untouched old floats list) enough in
      let w = walk_steps-left (λ e. zeros) in
      record {
        made = sym m.made ∙ w.made;
        written = sym m.written ∙ w.written;
        vertices-are = sym m.vertices ∙ w.vertices-are;
        indices-are = sym m.indices ∙ w.indices-are;
        size = sym m.size ∙ w.size;
        tail = sym m.tail ∙ w.tail;
      }
