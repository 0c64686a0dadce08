-- The visits of a regular cell: the edges that are new are those of its word, so that they may be made by their ranks in any order, before the row is
-- named. For `regular_visits`.
use mathlib.Core.Path.{◌≡◌, refl, sym, ap, ap₂, ◌∙◌}
use mathlib.Core.Bool.{Bool, true, false, cond, not, ◌&&◌}
use mathlib.Core.List.{List, [], ◌∷◌}
use Prim.Native.Nat.{ℕ, suc, ◌+◌, ◌*◌, ◌/◌, ◌%◌, ◌<◌}
use native.Mathlib.Nat.{add-zero, zero-add}
use native.Mathlib.Omega.{arith}
use lib.Dec.{eqb}
use lib.ListN.{length, get_or}
use lib.Ieee.{Float}
use Rattle.marching_cubes_tables.specs.Rule.{member}
use Rattle.walk.specs.Ownership.{new_edges}
use Rattle.walk.proofs.OwnedCells.{fold, times-fold}
use Rattle.walk_models.specs.Lent.{Lent}
use Rattle.walk_models.specs.CacheMemory.{CacheMemory}
use Rattle.walk_models.proofs.AnyOrder.{ranked_from, ranked, apart, fold-sorted}
use Rattle.packed_tables.specs.Unpacked.{Edges}
use Rattle.packed_tables.specs.Regular.{unfound, names, rank_of, new_count}
use Rattle.packed_tables.proofs.RegularWords.{Regular, pairs_of, six}
use Rattle.lent_mesh.specs.declared.Counts.{Counts}
use Rattle.lent_mesh.specs.Stored.{in_hand}
use Rattle.held_visits.specs.CellMemory.{in_cell, hand, held_visit, held_edges, number_edge}
use Rattle.regular_edges.specs.RegularEdges.{named_edge, regular_edges}
use Rattle.regular_cells.specs.RegularCell.{name_held, name_edges}
use Rattle.regular_cells.proofs.MadeFirst.{new_edges-agree, fresh, make_next, made-first}
use Rattle.regular_cells.proofs.Exchange.{by_rank, rank-exchange}

abbrev State : Type 0
State = Lent CacheMemory (List Float)

abbrev counted : ℕ → State → State
counted k s = record { memory = s.memory; vertices = s.vertices; indices = s.indices; made = s.made + k; written = s.written }

of_either : (P : List ℕ → Type 0) (b : Bool) (l m : List ℕ) → P l → P m → P (cond b l m)
of_either P true l m hl hm = hl
of_either P false l m hl hm = hm

new-known : (new : ℕ → Bool) (r : List ℕ) → Edges r → Edges (new_edges new r)
unfolding Edges new_edges
new-known new [] es = tt
new-known new (e ∷ r) es =
    let later : ℕ → Bool = λ d. new d && not (eqb d e) in
    of_either Edges (new e) (e ∷ new_edges later r) (new_edges new r) (es.0, new-known later r es.1) (new-known new r es.1)

module _ (n : ℕ) (samples : List Float) (x y z : ℕ) (lx : x < n) (ly : y < n) where
  abbrev ranks : ℕ → ℕ → State → State
  ranks = by_rank n samples x y z lx ly

  -- ---- in order

  one-ranked : (e k m : ℕ) (s : State) → s.made ≡ m → e < 12 → make_next n samples x y z e (counted k s) ≡ counted (suc k) (ranks m (e + 16 * k) s)
  unfolding number_edge
  one-ranked e k m s h l =
      let edge : (e + 16 * k) % 16 ≡ e = omega arith in
      let rank : (e + 16 * k) / 16 ≡ k = omega arith in
      let one : s.made + k + 1 ≡ s.made + suc k = omega arith in
      rw (edge, rank, one, sym h)

  ranked-from : (es : List ℕ) (k m : ℕ) (s : State) → s.made ≡ m → Edges es
      → fold (make_next n samples x y z) es (counted k s) ≡ counted (k + length es) (fold (ranks m) (ranked_from k es) s)
  unfolding fold Edges number_edge
  ranked-from [] k m s h known = ap (λ (i : ℕ). counted i s) (sym (add-zero k))
  ranked-from (e ∷ es) k m s h known =
      let more : suc k + length es ≡ k + suc (length es) = omega arith in
      ap (fold (make_next n samples x y z) es) (one-ranked e k m s h known.0)
      ∙ ranked-from es (suc k) m (ranks m (e + 16 * k) s) h known.1
      ∙ ap (λ (i : ℕ). counted i (fold (ranks m) (ranked_from (suc k) es) (ranks m (e + 16 * k) s))) more

  -- ---- as the word has them

  one-named : (word m e : ℕ) (es : List ℕ) (s : State) (b : Bool) → names word e ≡ b → e < 12
      → ((t : State) → fold (ranks m) (pairs_of word es) t ≡ fold (named_edge n samples x y z word m) es t)
      → fold (ranks m) (pairs_of word (e ∷ es)) s ≡ fold (named_edge n samples x y z word m) es (named_edge n samples x y z word m e s)
  unfolding fold named_edge
  one-named word m e es s true h l rest =
      let edge : (e + 16 * rank_of word e) % 16 ≡ e = omega arith in
      let rank : (e + 16 * rank_of word e) / 16 ≡ rank_of word e = omega arith in
      rw h
      (ap₂ (λ (k i : ℕ). fold (ranks m) (pairs_of word es) (number_edge n samples x y z k (m + i) s)) edge rank
      ∙ rest (number_edge n samples x y z e (m + rank_of word e) s))
  one-named word m e es s false h l rest = rw h (rest s)

  pairs-named : (word m : ℕ) (es : List ℕ) (s : State) → Edges es → fold (ranks m) (pairs_of word es) s ≡ fold (named_edge n samples x y z word m) es s
  unfolding fold Edges
  pairs-named word m [] s known = refl
  pairs-named word m (e ∷ es) s known = one-named word m e es s (names word e) refl known.0 (λ t. pairs-named word m es t known.1)

  six-known : Edges six
  unfolding Edges
  six-known = (omega arith, (omega arith, (omega arith, (omega arith, (omega arith, (omega arith, tt))))))

  six-named : (word m : ℕ) (s : State) → fold (named_edge n samples x y z word m) six s ≡ regular_edges n samples x y z word m s
  unfolding fold regular_edges
  six-named word m s = refl

  regular-made : (word : ℕ) (es : List ℕ) (s : State) → Regular word es → Edges es
      → fold (make_next n samples x y z) (new_edges unfound es) s ≡ counted (new_count word) (regular_edges n samples x y z word s.made s)
  regular-made word es s right known =
      let new : List ℕ = new_edges unfound es in
      let m : ℕ = s.made in
      let whole : counted 0 s ≡ s = rw add-zero in
      ap (fold (make_next n samples x y z) new) (sym whole)
      ∙ ranked-from new 0 m s refl (new-known unfound es known)
      ∙ ap (λ (k : ℕ). counted k (fold (ranks m) (ranked new) s)) (zero-add (length new) ∙ sym right.count)
      ∙ ap (counted (new_count word))
      (sym (fold-sorted apart (ranks m) (rank-exchange n samples x y z lx ly m) (ranked new) s right.all_apart)
      ∙ ap (λ (ps : List ℕ). fold (ranks m) ps s) right.in_order
      ∙ pairs-named word m six s six-known
      ∙ six-named word m s)

  -- ---- as the code takes it

  pub regular-visited : (word : ℕ) (es : List ℕ) (l r : ℕ) (work current : List ℕ) (vertices : List Float) (indices : List ℕ) (counts : Counts)
      (u held : List ℕ) (vs : List Float) (is : List ℕ) (written : ℕ)
      → Regular word es
      → Edges es
      → ((e : ℕ) → member e es ≡ true → eqb (get_or current e 0) 0 ≡ unfound e)
      → 0 < counts.made
      → length current ≡ 12
      → ((js : List ℕ) (m w : ℕ) → hand (in_cell u l r held) vs js m w ≡ regular_edges n samples x y z word counts.made (hand (in_cell work l r current) vertices js m w))
      → hand (in_cell u l r held) vs is (counts.made + new_count word) written
      ≡ name_edges es (hand (in_cell u l r held) vs indices (counts.made + new_count word) counts.written)
      → hand (in_cell u l r held) vs is (counts.made + new_count word) written
      ≡ held_edges n samples x y z es (in_hand (in_cell work l r current) vertices indices counts)
  unfolding held_edges name_edges
  regular-visited word es l r work current vertices indices counts u held vs is written right known absent some twelve made named =
      let s : State = in_hand (in_cell work l r current) vertices indices counts in
      let t : State = hand (in_cell u l r held) vs indices (counts.made + new_count word) counts.written in
      let agree : new_edges (fresh s) es ≡ new_edges unfound es = new_edges-agree es (fresh s) unfound absent in
      let first : fold (make_next n samples x y z) (new_edges (fresh s) es) s ≡ t =
      ap (λ (ds : List ℕ). fold (make_next n samples x y z) ds s) agree
      ∙ regular-made word es s right known
      ∙ sym (ap (counted (new_count word)) (made indices counts.made counts.written)) in
      named
      ∙ times-fold name_held 0 es t
      ∙ ap (fold name_held es) (sym first)
      ∙ sym (made-first n samples x y z es s some twelve known)
      ∙ sym (times-fold (held_visit n samples x y z) 0 es s)
