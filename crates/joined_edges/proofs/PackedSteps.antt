-- A step for each edge of a list that an iterator goes over: what the next item leaves of it, and that the steps make the edges or name
-- them.
use mathlib.Core.Path.{◌≡◌, refl, sym, ap, ap₂, ◌∙◌, subst}
use mathlib.Core.List.{List, [], ◌∷◌}
use Prim.Native.Nat.{ℕ, suc, ◌+◌, ◌*◌, ◌<◌}
use lib.ListN.{length, get_or, set}
use Rattle.walk.specs.Walk.{Visit, times}
use Rattle.walk.specs.Edges.{edge_of}
use Rattle.walk.proofs.OwnedCells.{fold, times-fold}
use Rattle.walk_models.specs.Owned.{edge_visit, slot, make_edge, name_edge}
use Rattle.packed_tables.specs.Listed.{numbers_put}
use Rattle.packed_tables.specs.Unpacked.{unpacked, triangles, Edges}
use Rattle.packed_tables.proofs.NumbersPut.{row-named}
use Rattle.packed_tables.proofs.PackedEdges.{unpacked-length}
use Rattle.joined_slots.specs.OneCell.{each}
use Rattle.inner_cells.specs.Ranked.{hand}

-- ---- step by step

each-cons : {S : Type 0} (step : ℕ → S → S) (e : ℕ) (es : List ℕ) (s : S) → each step (e ∷ es) s ≡ each step es (step e s)
unfolding each fold
each-cons step e es s = times-fold step 0 (e ∷ es) s ∙ sym (times-fold step 0 es (step e s))

each_next : {S : Type 0} (step : ℕ → S → S) (e : ℕ) (es all : List ℕ) (s t : S) → all ≡ e ∷ es → step e s ≡ t → each step all s ≡ each step es t
each_next step e es all s t ea et = ap (λ (l : List ℕ). each step l s) ea ∙ each-cons step e es s ∙ ap (each step es) et

pub each_none : {S : Type 0} (step : ℕ → S → S) (all : List ℕ) (s : S) → all ≡ [] → each step all s ≡ s
unfolding each times
each_none step all s e = ap (λ (l : List ℕ). each step l s) e

-- ---- what an item leaves

pub count-next : (k later word rest e : ℕ) → unpacked k word ≡ e ∷ unpacked later rest → k ≡ suc later
count-next k later word rest e h = sym (unpacked-length k word) ∙ ap length h ∙ ap suc (unpacked-length later rest)

pub count-none : (k word : ℕ) → unpacked k word ≡ [] → k ≡ 0
count-none k word h = sym (unpacked-length k word) ∙ ap length h

pub edge-known : (e : ℕ) (es all : List ℕ) → all ≡ e ∷ es → Edges all → e < 12
unfolding Edges
edge-known e es all h known = (subst Edges h known).0

-- ---- edges made

module _ {B : Type 0} (store : Visit → ℕ → B → B) (n x y z : ℕ) where
  abbrev place : ℕ → ℕ
  place e = slot n (edge_of (edge_visit x y z e))

  pub make-next : (e at made written : ℕ) (es all work l v : List ℕ) (b c : B) → all ≡ e ∷ es → at ≡ place e → v ≡ set work at made
      → c ≡ store (edge_visit x y z e) made b
      → each (make_edge store n z y x) all (hand work b l made written) ≡ each (make_edge store n z y x) es (hand v c l (made + 1) written)
  unfolding make_edge
  make-next e at made written es all work l v b c ea ep ev ec =
      each_next (make_edge store n z y x) e es all (hand work b l made written) (hand v c l (made + 1) written) ea
      (ap₂ (λ (m : List ℕ) (d : B). hand m d l (made + 1) written) (ap (λ (k : ℕ). set work k made) (sym ep) ∙ sym ev) (sym ec))

-- ---- edges named

-- triangle by triangle it is the same
pub row-of-numbers : {B : Type 0} (store : Visit → ℕ → B → B) (n x y z count word : ℕ) (work l m : List ℕ) (b : B) (made written reached : ℕ)
    → m ≡ numbers_put (λ e. get_or work (slot n (edge_of (edge_visit x y z e))) 0) (triangles count word) written l
    → reached ≡ written + 3 * count
    → hand work b m made reached ≡ each (name_edge store n z y x) (unpacked (3 * count) word) (hand work b l made written)
unfolding each name_edge
row-of-numbers store n x y z count word work l m b made written reached e h =
    row-named (λ d. get_or work (slot n (edge_of (edge_visit x y z d))) 0) (name_edge store n z y x) (λ o w. hand work b o made w) (λ d o w. refl)
    count word l m written reached e h
