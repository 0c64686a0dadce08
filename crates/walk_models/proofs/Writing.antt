-- The walk over lent buffers leaves the mesh of its numbering, stored from the start: any numbering, any way to store a vertex.
use mathlib.Core.Path.{◌≡◌, refl, sym, ap, ◌∙◌}
use mathlib.Core.List.{List, [], ◌∷◌, ◌++◌}
use Prim.Native.Nat.{ℕ, zero, suc, ◌+◌}
use native.Mathlib.Nat.{add-zero, add-suc, suc-add, zero-add}
use lib.ListN.{length, set}
use lib.Seq.{sets}
use Rattle.walk.specs.Walk.{Visit, Inside, visit_of, walk}
use Rattle.walk.specs.Numbering.{Numbering, Mesh, empty, choose, hooks, mesh}
use Rattle.walk.proofs.Each.{length-snoc}
use Rattle.walk.proofs.WalkInduction.{Steps, walk_kept}
use Rattle.walk_models.specs.Lent.{Lent, untouched, choose_lent, lent_hooks, store_all}

-- ---- one more

sets-from : {A : Type 0} (l : List A) (i : ℕ) (vs : List A) (a : A) → sets l i (vs ++ (a ∷ [])) ≡ set (sets l i vs) (i + length vs) a
sets-from l i [] a = rw add-zero
sets-from l i (b ∷ vs) a = sets-from (set l i b) (suc i) vs a ∙ rw (suc-add, add-suc)

pub sets-snoc : {A : Type 0} (l : List A) (vs : List A) (a : A) → sets l 0 (vs ++ (a ∷ [])) ≡ set (sets l 0 vs) (length vs) a
sets-snoc l vs a = sets-from l 0 vs a ∙ ap (λ (k : ℕ). set (sets l 0 vs) k a) (zero-add (length vs))

module _ {B : Type 0} (store : Visit → ℕ → B → B) where
  store_all-from : (i : ℕ) (vs : List Visit) (v : Visit) (b : B)
      → store_all store i (vs ++ (v ∷ [])) b ≡ store v (i + length vs) (store_all store i vs b)
  unfolding store_all
  store_all-from i [] v b = rw add-zero
  store_all-from i (u ∷ vs) v b = store_all-from (suc i) vs v (store u i b) ∙ rw (suc-add, add-suc)

  pub store_all-snoc : (vs : List Visit) (v : Visit) (b : B)
      → store_all store 0 (vs ++ (v ∷ [])) b ≡ store v (length vs) (store_all store 0 vs b)
  store_all-snoc vs v b = store_all-from 0 vs v b ∙ ap (λ (k : ℕ). store v k (store_all store 0 vs b)) (zero-add (length vs))

-- ---- what is left

pub lent-ext : {D B : Type 0} (d : D) {b c : B} {l m : List ℕ} {i j k o : ℕ} → b ≡ c → l ≡ m → i ≡ j → k ≡ o
    → ◌≡◌ {A = Lent D B} (record { memory = d; vertices = b; indices = l; made = i; written = k }) (record { memory = d; vertices = c; indices = m; made = j; written = o })
lent-ext d {b} {c} {l} {m} {i} {j} {k} {o} p q r s = rw (p, q, r, s)

module _ {D B : Type 0} (d : Numbering D) (store : Visit → ℕ → B → B) (b : B) (l : List ℕ) where
  -- the mesh s in buffers that held b and l
  abbrev pub left : Mesh D → Lent D B
  left s = record { memory = s.memory; vertices = store_all store 0 s.made b; indices = sets l 0 s.indices; made = length s.made; written = length s.indices }

  choose-left : (q : ℕ) (v : Visit) (s : Mesh D) → choose_lent d store q v (left s) ≡ left (choose d q v s)
  unfolding choose choose_lent
  choose-left zero v s =
      lent-ext (d.note v (length s.made) s.memory) (sym (store_all-snoc store s.made v b)) (sym (sets-snoc l s.indices (length s.made)))
      (sym (length-snoc s.made v)) (sym (length-snoc s.indices (length s.made)))
  choose-left (suc i) v s =
      lent-ext s.memory refl (sym (sets-snoc l s.indices i)) refl (sym (length-snoc s.indices i))

  left-steps : (g : Inside) (n layers : ℕ) → Steps g n layers (hooks d) (lent_hooks d store) (λ z y x j s w. w ≡ left s)
  unfolding hooks lent_hooks
  left-steps g n layers =
      record {
        visit = λ z y x j s w lz ly lx lj e.
            ap (λ (t : Lent D B). choose_lent d store (d.look (visit_of g x y z j) t.memory) (visit_of g x y z j) t) e
            ∙ choose-left (d.look (visit_of g x y z j) s.memory) (visit_of g x y z j) s;
        cell_end = λ z y x s w lz ly lx e. ap (lent_hooks d store).cell_end e;
        row_end = λ z y s w lz ly e. ap (lent_hooks d store).row_end e;
        layer_end = λ z s w lz e. ap ((lent_hooks d store).layer_end z) e;
      }

  pub walk-left : (g : Inside) (n layers : ℕ) (t : D) → walk (lent_hooks d store) g n layers (untouched t b l) ≡ left (mesh d t g n layers)
  unfolding mesh store_all
  walk-left g n layers t =
      walk_kept g n layers (hooks d) (lent_hooks d store) (λ z y x j s w. w ≡ left s) (left-steps g n layers) (empty t) (untouched t b l) refl
