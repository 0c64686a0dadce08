-- Two numberings that answer alike give the same mesh: what one owes the other, step by step, for the whole meshes to agree. It serves every
-- rendering of a numbering in other memory.
use mathlib.Core.Path.{◌≡◌, refl, sym, ap, ap₂, subst}
use mathlib.Core.List.{List, [], ◌∷◌, ◌++◌}
use Prim.Native.Nat.{ℕ, zero, suc, ◌+◌, ◌<◌}
use native.Mathlib.Omega.{arith}
use lib.ListN.{length}
use Rattle.walk.specs.Walk.{Visit, Inside, visit_of}
use Rattle.walk.specs.Numbering.{Numbering, Mesh, empty, choose, hooks, mesh}
use Rattle.walk.proofs.Each.{length-snoc}
use Rattle.walk.proofs.CellEdges.{cell_edges-lt}
use Rattle.walk.proofs.WalkInduction.{Steps, walk_kept}

-- a visit in layer z of a grid of size n
pub record InLayer (n z : ℕ) (v : Visit) : Type 0 where
  pub x_lt : v.x + 1 < n
  pub y-lt : v.y + 1 < n
  pub layer : v.z ≡ z
  pub edge-lt : v.edge < 12

-- R relates the memories in layer z with i vertices made
pub record Simulates {C D : Type 0} (R : ℕ → ℕ → C → D → Type 0) (n : ℕ) (c : Numbering C) (d : Numbering D) : Type 0 where
  pub look : (z i : ℕ) (v : Visit) (s : C) (t : D) → InLayer n z v → R z i s t → d.look v t ≡ c.look v s
  pub note : (z i : ℕ) (v : Visit) (s : C) (t : D) → InLayer n z v → c.look v s ≡ 0 → R z i s t
      → R z (i + 1) (c.note v i s) (d.note v i t)
  pub cell_end : (z i : ℕ) (s : C) (t : D) → R z i s t → R z i (c.cell_end s) (d.cell_end t)
  pub row_end : (z i : ℕ) (s : C) (t : D) → R z i s t → R z i (c.row_end s) (d.row_end t)
  pub layer_end : (z i : ℕ) (s : C) (t : D) → R z i s t → R (suc z) i (c.layer_end s) (d.layer_end t)

pub record Agree {C D : Type 0} (R : ℕ → C → D → Type 0) (s : Mesh C) (t : Mesh D) : Type 0 where
  pub memory : R (length s.made) s.memory t.memory
  pub made : t.made ≡ s.made
  pub indices : t.indices ≡ s.indices

module _ {C D : Type 0} (R : ℕ → ℕ → C → D → Type 0) (n : ℕ) (c : Numbering C) (d : Numbering D) (q : Simulates R n c d) where
  choose-agree : (z : ℕ) (v : Visit) → InLayer n z v → (s : Mesh C) (t : Mesh D) → Agree (R z) s t → (i : ℕ) → c.look v s.memory ≡ i
      → Agree (R z) (choose c i v s) (choose d i v t)
  unfolding choose
  choose-agree z v b s t p zero h =
      let e : length t.made ≡ length s.made = ap length p.made in
      record {
        memory =
            subst (λ (k : ℕ). R z k (c.note v (length s.made) s.memory) (d.note v (length t.made) t.memory)) (sym (length-snoc s.made v))
            (subst (λ (k : ℕ). R z (length s.made + 1) (c.note v (length s.made) s.memory) (d.note v k t.memory)) (sym e)
            (q.note z (length s.made) v s.memory t.memory b h p.memory));
        made = ap (λ (l : List Visit). l ++ (v ∷ [])) p.made;
        indices = ap₂ (λ (l : List ℕ) (k : ℕ). l ++ (k ∷ [])) p.indices e;
      }
  choose-agree z v b s t p (suc i) h = record { memory = p.memory; made = p.made; indices = ap (λ (l : List ℕ). l ++ (i ∷ [])) p.indices }

  agree-steps : (g : Inside) (layers : ℕ) → Steps g n layers (hooks c) (hooks d) (λ z y x j. Agree (R z))
  unfolding hooks
  agree-steps g layers =
      record {
        visit = λ z y x j s t lz ly lx lj p.
            let v : Visit = visit_of g x y z j in
            let b : InLayer n z v = record { x_lt = omega arith; y-lt = omega arith; layer = refl; edge-lt = cell_edges-lt g x y z j lj } in
            subst (λ (i : ℕ). Agree (R z) (choose c (c.look v s.memory) v s) (choose d i v t)) (sym (q.look z (length s.made) v s.memory t.memory b p.memory))
            (choose-agree z v b s t p (c.look v s.memory) refl);
        cell_end = λ z y x s t lz ly lx p. record { memory = q.cell_end z _ _ _ p.memory; made = p.made; indices = p.indices };
        row_end = λ z y s t lz ly p. record { memory = q.row_end z _ _ _ p.memory; made = p.made; indices = p.indices };
        layer_end = λ z s t lz p. record { memory = q.layer_end z _ _ _ p.memory; made = p.made; indices = p.indices };
      }

  pub meshes-agree : (g : Inside) (layers : ℕ) (s : C) (t : D) → R 0 0 s t → Agree (R layers) (mesh c s g n layers) (mesh d t g n layers)
  unfolding mesh
  meshes-agree g layers s t r =
      walk_kept g n layers (hooks c) (hooks d) (λ z y x j. Agree (R z)) (agree-steps g layers) (empty s) (empty t) (record { memory = r; made = refl; indices = refl })
