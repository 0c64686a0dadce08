-- A cell in which every number is looked for in `current` alone, from what is found at its start, is the cell of the index cache. For `crate_cell`.
use mathlib.Core.Path.{◌≡◌, refl, sym, ap, ◌∙◌, subst}
use mathlib.Core.List.{List, [], ◌∷◌}
use Prim.Native.Nat.{ℕ, zero, suc, ◌+◌, ◌-◌, ◌≤◌, ◌<◌}
use native.Mathlib.Omega.{arith}
use lib.ListN.{length, get_or, set, replicate}
use lib.Ieee.{Float}
use Rattle.walk.specs.Walk.{Inside, Hooks, cell_edges, times, cell}
use Rattle.walk.specs.Numbering.{one_more}
use Rattle.walk.proofs.OwnedCells.{fold, times-fold}
use Rattle.walk_models.specs.Lent.{Lent, choose_lent, lent_hooks}
use Rattle.walk_models.specs.Owned.{edge_visit}
use Rattle.walk_models.specs.CacheMemory.{CacheMemory, put_layer, put_row, put_memory, crate_memory}
use Rattle.packed_tables.specs.Unpacked.{Edges}
use Rattle.lent_mesh.specs.declared.Counts.{Counts}
use Rattle.lent_mesh.specs.Stored.{store_at, in_hand}
use Rattle.index_cache.specs.Found.{found_all}
use Rattle.held_visits.specs.CellMemory.{at_border, in_cell, held_memory, held_visit, held_edges}
use Rattle.crate_cells.proofs.FoundKept.{Holds, holds-start, holds-put}

abbrev State : Type 0
State = Lent CacheMemory (List Float)

-- the cell is left: no number in `current`
abbrev left : State → State
left s =
    record {
      memory = record { work = s.memory.work; layer = s.memory.layer; row = s.memory.row; current = replicate 12 0 };
      vertices = s.vertices;
      indices = s.indices;
      made = s.made;
      written = s.written;
    }

-- s has the found numbers in `current`, t only the cell's own
pub record Follows (n x y l r : ℕ) (s t : State) : Type 0 where
  pub work : List ℕ
  pub current : List ℕ
  pub own : List ℕ
  pub vertices : List Float
  pub indices : List ℕ
  pub counts : Counts
  pub held : s ≡ in_hand (in_cell work l r current) vertices indices counts
  pub owned : t ≡ in_hand (in_cell work l r own) vertices indices counts
  pub holds : Holds n x y l r work current own

module _ (n x y l r : ℕ) (lx : x < n) (ly : y < n) (ll : l ≤ 1) (lr : r ≤ 1) (samples : List Float) (z : ℕ) where
  abbrev crate_hooks : Hooks State
  crate_hooks = lent_hooks (crate_memory n) (store_at n samples)

  abbrev crate_visit : ℕ → State → State
  crate_visit e t = crate_hooks.visit (edge_visit x y z e) t

  -- what either does at the edge e, by the number that it has
  abbrev held_choice : ℕ → ℕ → State → State
  held_choice e number s = choose_lent (held_memory n) (store_at n samples) (one_more number) (edge_visit x y z e) s

  abbrev crate_choice : ℕ → ℕ → State → State
  crate_choice e number t = choose_lent (crate_memory n) (store_at n samples) (one_more number) (edge_visit x y z e) t

  module _ (work current own : List ℕ) (vertices : List Float) (indices : List ℕ) (counts : Counts) where
    abbrev held_here : State
    held_here = in_hand (in_cell work l r current) vertices indices counts

    abbrev crate_here : State
    crate_here = in_hand (in_cell work l r own) vertices indices counts

    choose-follows : (e number : ℕ) → e < 12 → get_or current e 0 ≡ number → Holds n x y l r work current own
        → Follows n x y l r (held_choice e number held_here) (crate_choice e number crate_here)
    unfolding choose_lent held_memory crate_memory put_memory
    choose-follows e zero h none s =
        let i : ℕ = counts.made in
        record {
          work = put_row n (1 - r) x e i (put_layer n (1 - l) x y e i work);
          current = set current e i;
          own = set own e i;
          vertices = store_at n samples (edge_visit x y z e) i vertices;
          indices = set indices counts.written i;
          counts = record { made = i + 1; written = counts.written + 1; ordered = omega (arith, counts.ordered) };
          held = refl;
          owned = refl;
          holds = holds-put n x y l r lx ly ll lr e i work current own h none s;
        }
    choose-follows e (suc k) h some s =
        record {
          work = work;
          current = current;
          own = own;
          vertices = vertices;
          indices = set indices counts.written (suc k);
          counts = record { made = counts.made; written = counts.written + 1; ordered = omega (arith, counts.ordered) };
          held = refl;
          owned = refl;
          holds = s;
        }

    visit-follows : (e : ℕ) → e < 12 → Holds n x y l r work current own
        → Follows n x y l r (held_visit n samples x y z e held_here) (crate_visit e crate_here)
    unfolding held_visit lent_hooks held_memory crate_memory
    visit-follows e h s =
        subst (λ (k : ℕ). Follows n x y l r (held_visit n samples x y z e held_here) (crate_choice e k crate_here)) (s.numbers e h)
        (choose-follows e (get_or current e 0) h refl s)

  step_follows : (e : ℕ) (s t : State) → e < 12 → Follows n x y l r s t → Follows n x y l r (held_visit n samples x y z e s) (crate_visit e t)
  step_follows e s t h f = rw (f.held, f.owned) (visit-follows f.work f.current f.own f.vertices f.indices f.counts e h f.holds)

  edges-follow : (es : List ℕ) (s t : State) → Edges es → Follows n x y l r s t
      → Follows n x y l r (fold (held_visit n samples x y z) es s) (fold crate_visit es t)
  unfolding fold Edges
  edges-follow [] s t h f = f
  edges-follow (e ∷ es) s t h f = edges-follow es (held_visit n samples x y z e s) (crate_visit e t) h.1 (step_follows e s t h.0 f)

  follows-left : (s t : State) → Follows n x y l r s t → left s ≡ crate_hooks.cell_end t
  unfolding lent_hooks crate_memory
  follows-left s t f = ap left f.held ∙ sym (ap left f.owned)

  pub held-cell : (g : Inside) (es work current : List ℕ) (vertices : List Float) (indices : List ℕ) (counts : Counts)
      (u held : List ℕ) (vs : List Float) (is : List ℕ) (reached : Counts)
      → es ≡ cell_edges g x y z
      → Edges es
      → current ≡ found_all n x y l r work
      → in_hand (in_cell u l r held) vs is reached ≡ held_edges n samples x y z es (in_hand (in_cell work l r current) vertices indices counts)
      → in_hand (at_border u l r) vs is reached
      ≡ cell (lent_hooks (crate_memory n) (store_at n samples)) g n z y x (in_hand (at_border work l r) vertices indices counts)
  unfolding cell held_edges
  held-cell g es work current vertices indices counts u held vs is reached row each found h =
      let s : State = in_hand (in_cell work l r current) vertices indices counts in
      let t : State = in_hand (at_border work l r) vertices indices counts in
      let start : Follows n x y l r s t =
      record {
        work = work;
        current = current;
        own = replicate 12 0;
        vertices = vertices;
        indices = indices;
        counts = counts;
        held = refl;
        owned = refl;
        holds = rw found (holds-start n x y l r work);
      } in
      ap left (h ∙ times-fold (held_visit n samples x y z) 0 es s)
      ∙ follows-left (fold (held_visit n samples x y z) es s) (fold crate_visit es t) (edges-follow es s t each start)
      ∙ ap (λ (a : State). crate_hooks.cell_end a) (sym (times-fold crate_visit 0 es t))
      ∙ ap (λ (edges : List ℕ). crate_hooks.cell_end (times (length edges) (λ j a. crate_visit (get_or edges j 0) a) t)) row
