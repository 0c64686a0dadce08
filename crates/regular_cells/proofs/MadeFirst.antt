-- The visits of a cell in two passes: the edges that have no number are made first, each where the row first names it, and the row is then named. It is
-- the same as visit by visit where a vertex has been made before, for then no number that is given reads as absent. For `regular_visits`.
use mathlib.Core.Path.{◌≡◌, refl, sym, ap, ◌∙◌}
use mathlib.Core.Logic.{⊎_elim}
use mathlib.Core.Bool.{Bool, true, false, cond, not, ◌&&◌, ◌||◌, and-true, and-false, true≢false}
use mathlib.Core.List.{List, [], ◌∷◌}
use Prim.Native.Nat.{ℕ, zero, suc, ◌+◌, ◌<◌}
use native.Mathlib.Omega.{arith}
use lib.Dec.{eqb}
use lib.ListN.{length, get_or, set, length-set}
use lib.Seq.{get_or-set_same, get_or-set_other}
use lib.Ieee.{Float}
use borrow.Author.Tests.{eqb-true, eqb-false, eq-eqb, ne_eqb}
use Rattle.marching_cubes_tables.specs.Rule.{member}
use Rattle.walk.specs.Numbering.{one_more}
use Rattle.walk.specs.Ownership.{new_edges}
use Rattle.walk.proofs.Bools.{bool_cases}
use Rattle.walk.proofs.OwnedCells.{fold}
use Rattle.walk_models.specs.Lent.{Lent, choose_lent, lent_hooks}
use Rattle.walk_models.specs.Owned.{edge_visit}
use Rattle.walk_models.specs.CacheMemory.{CacheMemory, put_memory}
use Rattle.packed_tables.specs.Unpacked.{Edges}
use Rattle.lent_mesh.specs.Stored.{store_at}
use Rattle.held_visits.specs.CellMemory.{held_memory, held_visit}
use Rattle.regular_cells.specs.RegularCell.{name_held}

abbrev State : Type 0
State = Lent CacheMemory (List Float)

-- ---- new edges

-- what is new matters only at the edges of the row
pub new_edges-agree : (r : List ℕ) (new old : ℕ → Bool) → ((d : ℕ) → member d r ≡ true → new d ≡ old d) → new_edges new r ≡ new_edges old r
unfolding new_edges
new_edges-agree [] new old h = refl
new_edges-agree (e ∷ r) new old h =
    let first : new e ≡ old e = h e (ap (λ (b : Bool). b || member e r) (eq-eqb e e refl)) in
    let later : (d : ℕ) → member d r ≡ true → new d ≡ old d = λ d m. h d (or_right (eqb d e) (member d r) m) in
    rw (
      first,
      new_edges-agree r new old later,
      new_edges-agree r (λ d. new d && not (eqb d e)) (λ d. old d && not (eqb d e)) (λ d m. ap (λ (b : Bool). b && not (eqb d e)) (later d m)),
    )
  where
    or_right : (a b : Bool) → b ≡ true → (a || b) ≡ true
    or_right true b h = refl
    or_right false b h = h

new_edges-lacks : (r : List ℕ) (new : ℕ → Bool) (e : ℕ) → new e ≡ false → member e (new_edges new r) ≡ false
unfolding new_edges
new_edges-lacks [] new e h = refl
new_edges-lacks (d ∷ r) new e h =
    ⊎_elim
    (λ (t : new d ≡ true).
    let other : eqb e d ≡ false = ne_eqb e d (λ q. true≢false (sym t ∙ sym (ap new q) ∙ h)) in
    let rest = new_edges-lacks r (λ k. new k && not (eqb k d)) e (ap (λ (b : Bool). b && not (eqb e d)) h) in
    rw t (rw (other, rest)))
    (λ (f : new d ≡ false). rw f (new_edges-lacks r new e h))
    (bool_cases (new d))

-- ---- one edge

abbrev pub fresh : State → ℕ → Bool
fresh s e = eqb (get_or s.memory.current e 0) 0

module _ (n : ℕ) (samples : List Float) (x y z : ℕ) where
  abbrev visit : ℕ → State → State
  visit = held_visit n samples x y z

  -- the edge e gets the next number
  abbrev pub make_next : ℕ → State → State
  make_next e s =
      record {
        memory = put_memory n x y e s.made s.memory;
        vertices = store_at n samples (edge_visit x y z e) s.made s.vertices;
        indices = s.indices;
        made = s.made + 1;
        written = s.written;
      }

  choice : ℕ → ℕ → State → State
  choice e number s = choose_lent (held_memory n) (store_at n samples) (one_more number) (edge_visit x y z e) s

  visit-new : (e : ℕ) (s : State) → e < length s.memory.current → get_or s.memory.current e 0 ≡ 0 → visit e s ≡ name_held e (make_next e s)
  unfolding held_visit lent_hooks held_memory choice choose_lent name_held put_memory
  visit-new e s l h =
      ap (λ (k : ℕ). choice e k s) h
      ∙ ap (λ (k : ℕ). record { memory = (make_next e s).memory; vertices = (make_next e s).vertices; indices = set s.indices s.written k; made = s.made + 1; written = s.written + 1 })
      (sym (get_or-set_same s.memory.current e s.made 0 l))

  choice-old : (e k : ℕ) (s : State) → get_or s.memory.current e 0 ≡ k → (k ≡ 0 → ⊥) → choice e k s ≡ name_held e s
  unfolding choice choose_lent name_held
  choice-old e zero s h o = absurd (o refl)
  choice-old e (suc k) s h o =
      ap (λ (i : ℕ). record { memory = s.memory; vertices = s.vertices; indices = set s.indices s.written i; made = s.made; written = s.written + 1 }) (sym h)

  visit-old : (e : ℕ) (s : State) → (get_or s.memory.current e 0 ≡ 0 → ⊥) → visit e s ≡ name_held e s
  unfolding held_visit lent_hooks held_memory choice
  visit-old e s h = choice-old e (get_or s.memory.current e 0) s refl h

  -- naming an edge and making another may change places
  name-make : (e d : ℕ) (s : State) → eqb e d ≡ false → name_held e (make_next d s) ≡ make_next d (name_held e s)
  unfolding name_held put_memory
  name-make e d s h =
      ap (λ (k : ℕ). record { memory = (make_next d s).memory; vertices = (make_next d s).vertices; indices = set s.indices s.written k; made = s.made + 1; written = s.written + 1 })
      (get_or-set_other s.memory.current d e s.made 0 (eqb-false e d h))

  name-makes : (ds : List ℕ) (e : ℕ) (s : State) → member e ds ≡ false → name_held e (fold make_next ds s) ≡ fold make_next ds (name_held e s)
  unfolding fold
  name-makes [] e s h = refl
  name-makes (d ∷ ds) e s h =
      name-makes ds e (make_next d s) (or_later (eqb e d) (member e ds) h) ∙ ap (fold make_next ds) (name-make e d s (or-first (eqb e d) (member e ds) h))
    where
      or-first : (a b : Bool) → (a || b) ≡ false → a ≡ false
      or-first true b h = h
      or-first false b h = refl

      or_later : (a b : Bool) → (a || b) ≡ false → b ≡ false
      or_later true b h = absurd (true≢false h)
      or_later false b h = h

  -- once e is made it is no longer new
  fresh-next : (e d : ℕ) (s : State) → 0 < s.made → e < length s.memory.current → fresh (make_next e s) d ≡ (fresh s d && not (eqb d e))
  unfolding put_memory
  fresh-next e d s some l =
      ⊎_elim
      (λ (t : eqb d e ≡ true).
      let q : d ≡ e = eqb-true d e t in
      let i : get_or (set s.memory.current e s.made) d 0 ≡ s.made = ap (λ (k : ℕ). get_or (set s.memory.current e s.made) k 0) q ∙ get_or-set_same s.memory.current e s.made 0 l in
      ap (λ (k : ℕ). eqb k 0) i ∙ ne_eqb s.made 0 (λ z₀. omega arith) ∙ sym (ap (λ (b : Bool). fresh s d && not b) t ∙ and-false (fresh s d)))
      (λ (f : eqb d e ≡ false).
      ap (λ (k : ℕ). eqb k 0) (get_or-set_other s.memory.current e d s.made 0 (eqb-false d e f))
      ∙ sym (ap (λ (b : Bool). fresh s d && not b) f ∙ and-true (fresh s d)))
      (bool_cases (eqb d e))

  -- ---- the row

  name-kept : (e : ℕ) (s : State) → ((name_held e s).memory ≡ s.memory) × ((name_held e s).made ≡ s.made)
  unfolding name_held
  name-kept e s = (refl, refl)

  next-length : (e : ℕ) (s : State) → length (make_next e s).memory.current ≡ length s.memory.current
  unfolding put_memory
  next-length e s = length-set s.memory.current e s.made

  -- what is new after e has been named, by the memory that it has then
  fresh-by : (r : List ℕ) (s t : State) → s.memory ≡ t.memory → new_edges (fresh s) r ≡ new_edges (fresh t) r
  fresh-by r s t h = ap (λ (m : CacheMemory). new_edges (λ d. eqb (get_or m.current d 0) 0) r) h

  pub made-first : (es : List ℕ) (s : State) → 0 < s.made → length s.memory.current ≡ 12 → Edges es
      → fold visit es s ≡ fold name_held es (fold make_next (new_edges (fresh s) es) s)
  unfolding fold new_edges Edges
  made-first [] s some twelve known = refl
  made-first (e ∷ r) s some twelve known =
      let later : ℕ → Bool = λ d. fresh s d && not (eqb d e) in
      let within : e < length s.memory.current = (let a = known.0 in omega arith) in
      ⊎_elim
      (λ (t : fresh s e ≡ true).
      let v : State = make_next e s in
      let u : State = name_held e v in
      let ds : List ℕ = new_edges later r in
      let kept = name-kept e v in
      let same : new_edges (fresh u) r ≡ ds = fresh-by r u v kept.0 ∙ new_edges-agree r (fresh v) later (λ d m. fresh-next e d s some within) in
      let gone : later e ≡ false = ap (λ (b : Bool). fresh s e && not b) (eq-eqb e e refl) ∙ and-false (fresh s e) in
      ap (fold visit r) (visit-new e s within (eqb-true _ _ t))
      ∙ made-first r u (let m = kept.1 in omega arith) (ap (λ (m : CacheMemory). length m.current) kept.0 ∙ next-length e s ∙ twelve) known.1
      ∙ ap (λ (l : List ℕ). fold name_held r (fold make_next l u)) same
      ∙ ap (fold name_held r) (sym (name-makes ds e v (new_edges-lacks r later e gone)))
      ∙ ap (λ (b : Bool). fold name_held (e ∷ r) (fold make_next (cond b (e ∷ ds) (new_edges (fresh s) r)) s)) (sym t))
      (λ (f : fresh s e ≡ false).
      let u : State = name_held e s in
      let ds : List ℕ = new_edges (fresh s) r in
      let kept = name-kept e s in
      ap (fold visit r) (visit-old e s (eqb-false _ _ f))
      ∙ made-first r u (let m = kept.1 in omega arith) (ap (λ (m : CacheMemory). length m.current) kept.0 ∙ twelve) known.1
      ∙ ap (λ (l : List ℕ). fold name_held r (fold make_next l u)) (fresh-by r u s kept.0)
      ∙ ap (fold name_held r) (sym (name-makes ds e s (new_edges-lacks r (fresh s) e f)))
      ∙ ap (λ (b : Bool). fold name_held (e ∷ r) (fold make_next (cond b (e ∷ new_edges later r) ds) s)) (sym f))
      (bool_cases (fresh s e))
