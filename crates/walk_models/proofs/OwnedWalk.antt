-- The joined mesh in lent memory by ownership: whatever the working memory held, the walk that makes each cell's new edges and then reads its row
-- leaves the joined mesh in the buffers, and the working memory past its window as it was.
use mathlib.Core.Path.{◌≡◌, refl, sym, ap, ap₂, ◌∙◌, subst}
use mathlib.Core.List.{List, [], ◌∷◌, ◌++◌, map, append_assoc, append-nil}
use Prim.Native.Nat.{ℕ, ◌+◌, ◌-◌, ◌*◌, ◌<◌, ◌≤◌}
use lib.ListN.{length, get_or, set}
use lib.Seq.{sets}
use Rattle.walk.specs.Walk.{Visit, Inside, cell_edges, times, cell}
use Rattle.walk.specs.Edges.{Edge}
use Rattle.walk.specs.Numbering.{Mesh, hooks, mesh, joined, number}
use Rattle.walk.proofs.Each.{length-snoc}
use Rattle.walk.proofs.GridEdges.{visit_at, edge_of-in_box}
use Rattle.walk.proofs.Ownership.{Met}
use Rattle.walk.proofs.OwnedCells.{fold, times-fold, key, Fresh, AllMet, mesh_of, mesh-ext, numbers, cell-outlook, cell-by-ownership}
use Rattle.walk_models.specs.Lent.{Lent, untouched, store_all}
use Rattle.walk_models.specs.Owned.{slot, cell_new, make_edge, name_edge, owned_cell, cells_of_grid}
use Rattle.walk_models.proofs.Writing.{sets-snoc, store_all-snoc}
use Rattle.walk_models.proofs.Window.{Window, window-start, window-made, window-number, window-layer-end, edge_of-live}
use Rattle.walk_models.proofs.JoinedCells.{CellSteps, cells-related}

-- ---- the buffers

module _ {B : Type 0} (store : Visit → ℕ → B → B) (b : B) (l old : List ℕ) (n layers : ℕ) (room : 8 * (n * n) ≤ length old) where
  pub record Written (z : ℕ) (s : Mesh (List Edge)) (w : Lent (List ℕ) B) : Type 0 where
    pub window : Window n layers z old s.memory w.memory
    pub count : length s.made ≡ length s.memory
    pub vertices : w.vertices ≡ store_all store 0 s.made b
    pub indices : w.indices ≡ sets l 0 s.indices
    pub made : w.made ≡ length s.made
    pub written : w.written ≡ length s.indices

  module _ (z y x : ℕ) (lz : z < layers) (ly : y < n - 1) (lx : x < n - 1) where
    make-written : (e : ℕ) → e < 12 → (s : Mesh (List Edge)) (w : Lent (List ℕ) B) → number (key x y z e) s.memory ≡ 0 → Written z s w
        → Written z (mesh_of (s.memory ++ (key x y z e ∷ [])) (s.made ++ (visit_at x y z e ∷ [])) s.indices) (make_edge store n z y x e w)
    unfolding make_edge
    make-written e he s w new p =
        let i : w.made ≡ length s.memory = p.made ∙ p.count in
        record {
          window =
              subst (λ (k : ℕ). Window n layers z old (s.memory ++ (key x y z e ∷ [])) (set w.memory (slot n (key x y z e)) k)) (sym i)
              (window-made n layers z old room s.memory w.memory (key x y z e) (edge_of-live n x y z e lx ly he) new p.window);
          count = length-snoc s.made (visit_at x y z e) ∙ ap (λ (k : ℕ). k + 1) p.count ∙ sym (length-snoc s.memory (key x y z e));
          vertices = ap₂ (λ (k : ℕ) (t : B). store (visit_at x y z e) k t) p.made p.vertices ∙ sym (store_all-snoc store s.made (visit_at x y z e) b);
          indices = p.indices;
          made = ap (λ (k : ℕ). k + 1) p.made ∙ sym (length-snoc s.made (visit_at x y z e));
          written = p.written;
        }

    makes-written : (es : List ℕ) (s : Mesh (List Edge)) (w : Lent (List ℕ) B) → Fresh x y z s.memory es → Written z s w
        → Written z (mesh_of (s.memory ++ map (key x y z) es) (s.made ++ map (visit_at x y z) es) s.indices) (fold (make_edge store n z y x) es w)
    unfolding fold Fresh
    makes-written [] s w f p =
        subst (λ (t : Mesh (List Edge)). Written z t w) (mesh-ext (sym (append-nil s.memory)) (sym (append-nil s.made)) refl) p
    makes-written (e ∷ es) s w f p =
        let u : Mesh (List Edge) = mesh_of (s.memory ++ (key x y z e ∷ [])) (s.made ++ (visit_at x y z e ∷ [])) s.indices in
        subst (λ (t : Mesh (List Edge)). Written z t (fold (make_edge store n z y x) es (make_edge store n z y x e w)))
        (mesh-ext (append_assoc s.memory (key x y z e ∷ []) (map (key x y z) es)) (append_assoc s.made (visit_at x y z e ∷ []) (map (visit_at x y z) es)) refl)
        (makes-written es u (make_edge store n z y x e w) f.2 (make-written e f.1 s w f.0 p))

    name-written : (e : ℕ) → e < 12 → (s : Mesh (List Edge)) (w : Lent (List ℕ) B) → 0 < number (key x y z e) s.memory → Written z s w
        → Written z (mesh_of s.memory s.made (s.indices ++ ((number (key x y z e) s.memory - 1) ∷ []))) (name_edge store n z y x e w)
    unfolding name_edge
    name-written e he s w h p =
        let k : Edge = key x y z e in
        let v = window-number n layers z old s.memory w.memory p.window k (edge_of-in_box x y z e he n layers lx ly lz) (edge_of-live n x y z e lx ly he) h in
        record {
          window = p.window;
          count = p.count;
          vertices = p.vertices;
          indices =
              ap₂ (λ (t : List ℕ) (o : ℕ). set t o (get_or w.memory (slot n k) 0)) p.indices p.written
              ∙ ap (λ (o : ℕ). set (sets l 0 s.indices) (length s.indices) o) v ∙ sym (sets-snoc l s.indices (number k s.memory - 1));
          made = p.made;
          written = ap (λ (o : ℕ). o + 1) p.written ∙ sym (length-snoc s.indices (number k s.memory - 1));
        }

    names-written : (r : List ℕ) (s : Mesh (List Edge)) (w : Lent (List ℕ) B) → AllMet x y z s.memory r → Written z s w
        → Written z (mesh_of s.memory s.made (s.indices ++ numbers x y z s.memory r)) (fold (name_edge store n z y x) r w)
    unfolding fold AllMet
    names-written [] s w a p = subst (λ (t : Mesh (List Edge)). Written z t w) (mesh-ext refl refl (sym (append-nil s.indices))) p
    names-written (e ∷ r) s w a p =
        let i : ℕ = number (key x y z e) s.memory - 1 in
        let u : Mesh (List Edge) = mesh_of s.memory s.made (s.indices ++ (i ∷ [])) in
        subst (λ (t : Mesh (List Edge)). Written z t (fold (name_edge store n z y x) r (name_edge store n z y x e w)))
        (mesh-ext refl refl (append_assoc s.indices (i ∷ []) (numbers x y z s.memory r)))
        (names-written r u (name_edge store n z y x e w) a.2 (name-written e a.1 s w a.0 p))

    cell-written : (g : Inside) (s : Mesh (List Edge)) (w : Lent (List ℕ) B) → Met g n layers z y x 0 s → Written z s w
        → Written z (cell (hooks joined) g n z y x s) (owned_cell store n g z y x w)
    unfolding owned_cell cell_new
    cell-written g s w m p =
        let r : List ℕ = cell_edges g x y z in
        let es : List ℕ = cell_new g x y z in
        let o = cell-outlook g n layers z y x lz ly lx s m in
        let u : Mesh (List Edge) = mesh_of (s.memory ++ map (key x y z) es) (s.made ++ map (visit_at x y z) es) s.indices in
        let made_all : Written z u (times (length es) (λ j t. make_edge store n z y x (get_or es j 0) t) w) =
        subst (Written z u) (sym (times-fold (make_edge store n z y x) 0 es w)) (makes-written es s w o.fresh p) in
        subst (λ (t : Mesh (List Edge)). Written z t (owned_cell store n g z y x w)) (sym (cell-by-ownership g n layers z y x lz ly lx s m))
        (subst (Written z (mesh_of u.memory u.made (s.indices ++ numbers x y z u.memory r)))
        (sym (times-fold (name_edge store n z y x) 0 r (times (length es) (λ j t. make_edge store n z y x (get_or es j 0) t) w)))
        (names-written r u (times (length es) (λ j t. make_edge store n z y x (get_or es j 0) t) w) o.all-met made_all))

  written-steps : (g : Inside) → CellSteps g n layers (owned_cell store n g) Written
  written-steps g =
      record {
        cell = λ z y x s w lz ly lx m p. cell-written z y x lz ly lx g s w m p;
        layer_end = λ z s w lz m p.
            record {
              window = window-layer-end g n layers z old s w.memory m p.window;
              count = p.count;
              vertices = p.vertices;
              indices = p.indices;
              made = p.made;
              written = p.written;
            };
      }

  pub owned-walk : (g : Inside)
      → Written layers (mesh joined [] g n layers) (cells_of_grid (owned_cell store n g) n layers (untouched old b l))
  unfolding store_all
  owned-walk g =
      cells-related g n layers (owned_cell store n g) Written (written-steps g) (untouched old b l)
      (record {
        window = window-start n layers 0 old;
        count = refl;
        vertices = refl;
        indices = refl;
        made = refl;
        written = refl;
      })
