-- A cell of the joined walk, made first and looked up afterwards: the new edges of its row are known where the cell begins, so their vertices can be
-- made one after the other and the indices then read off, with the same mesh as visit by visit.
use mathlib.Core.Path.{◌≡◌, refl, sym, ap, ap₂, ◌∙◌, subst}
use mathlib.Core.Logic.{⊎_elim}
use mathlib.Core.Bool.{Bool, true, false, cond, not, ◌&&◌, and-true, and-false, false≢true, true≢false}
use mathlib.Core.List.{List, [], ◌∷◌, ◌++◌, map, append_assoc, append-nil}
use Prim.Native.Nat.{ℕ, zero, suc, ◌+◌, ◌-◌, ◌<◌}
use native.Mathlib.Nat.{eq-zero-or-pos}
use native.Mathlib.Omega.{arith}
use lib.Dec.{eqb}
use borrow.Author.Tests.{eqb-true}
use lib.ListN.{length, get_or, length-append, length-map}
use Rattle.walk.specs.Walk.{Visit, Inside, cell_edges, times, cell}
use Rattle.walk.specs.Edges.{Edge, edge_of, crosses, has}
use Rattle.walk.specs.Numbering.{Mesh, choose, hooks, joined, number}
use Rattle.walk.specs.Ownership.{new_edges}
use Rattle.walk.proofs.Bools.{bool_cases}
use Rattle.walk.proofs.GridEdges.{visit_at, edge_of-same}
use Rattle.walk.proofs.CellEdges.{cell_edges-lt, visit-crosses}
use Rattle.walk.proofs.FirstUse.{number_append, number-snoc-same, number-snoc-other, number-zero, number-pos}
use Rattle.walk.proofs.Home.{owns}
use Rattle.walk.proofs.Ownership.{Met}
use Rattle.walk.proofs.NewVisits.{absent-owned}

-- ---- a step for each entry of a list, from the first

unfoldable pub fold : {A S : Type 0} → (A → S → S) → List A → S → S
fold f [] s = s
fold f (a ∷ l) s = fold f l (f a s)

times-first : {S : Type 0} (f : ℕ → S → S) (k : ℕ) (s : S) → times (suc k) f s ≡ times k (λ j t. f (suc j) t) (f 0 s)
unfolding times
times-first f zero s = refl
times-first f (suc k) s = ap (f (suc k)) (times-first f k s)

pub times-fold : {A S : Type 0} (f : A → S → S) (d : A) (l : List A) (s : S) → times (length l) (λ j t. f (get_or l j d) t) s ≡ fold f l s
unfolding times fold
times-fold f d [] s = refl
times-fold f d (a ∷ l) s = times-first (λ j t. f (get_or (a ∷ l) j d) t) (length l) s ∙ times-fold f d l (f a s)

-- ---- which of a row's edges are new, in terms of the numbers

-- a new edge has no number, any other has one
abbrev pub Told : Bool → ℕ → Type 0
Told true i = i ≡ 0
Told false i = 0 < i

abbrev pub mesh_of : List Edge → List Visit → List ℕ → Mesh (List Edge)
mesh_of ms made indices = record { memory = ms; made = made; indices = indices }

pub mesh-ext : {ms ns : List Edge} {vs ws : List Visit} {is js : List ℕ} → ms ≡ ns → vs ≡ ws → is ≡ js → mesh_of ms vs is ≡ mesh_of ns ws js
mesh-ext {ms} {ns} {vs} {ws} {is} {js} p q r =
    ap (λ (t : List Edge). mesh_of t vs is) p ∙ ap (λ (t : List Visit). mesh_of ns t is) q ∙ ap (λ (t : List ℕ). mesh_of ns ws t) r

module _ (x y z : ℕ) where
  abbrev pub key : ℕ → Edge
  key e = edge_of (visit_at x y z e)

  -- for each edge of the row r
  unfoldable pub Known : (ℕ → Bool) → List Edge → List ℕ → Type 0
  Known new ms [] = Unit
  Known new ms (e ∷ r) = Told (new e) (number (key e) ms) × (e < 12) × Known new ms r

  -- once e is made, it is no longer new
  told-next : (new : ℕ → Bool) (ms : List Edge) (e d : ℕ) → d < 12 → e < 12 → number (key e) ms ≡ 0 → Told (new d) (number (key d) ms)
      → Told (new d && not (eqb d e)) (number (key d) (ms ++ (key e ∷ [])))
  told-next new ms e d hd he h t =
      ⊎_elim
      (λ (q : eqb d e ≡ true).
      let k : key d ≡ key e = ap key (eqb-true d e q) in
      let i : number (key d) (ms ++ (key e ∷ [])) ≡ suc (length ms) = ap (λ (m : Edge). number m (ms ++ (key e ∷ []))) k ∙ number-snoc-same (key e) ms h in
      subst (λ (b : Bool). Told b (number (key d) (ms ++ (key e ∷ [])))) (sym (ap (λ (b : Bool). new d && not b) q ∙ and-false (new d))) (omega arith))
      (λ (f : eqb d e ≡ false).
      let i : number (key d) (ms ++ (key e ∷ [])) ≡ number (key d) ms = number-snoc-other (key d) (key e) ms (edge_of-same x y z d e hd he ∙ f) in
      subst (λ (b : Bool). Told b (number (key d) (ms ++ (key e ∷ [])))) (sym (ap (λ (b : Bool). new d && not b) f ∙ and-true (new d))) (subst (Told (new d)) (sym i) t))
      (bool_cases (eqb d e))

  known_next : (new : ℕ → Bool) (ms : List Edge) (e : ℕ) (r : List ℕ) → e < 12 → number (key e) ms ≡ 0 → Known new ms r
      → Known (λ d. new d && not (eqb d e)) (ms ++ (key e ∷ [])) r
  unfolding Known
  known_next new ms e [] he h k = tt
  known_next new ms e (d ∷ r) he h k = (told-next new ms e d k.1 he h k.0, k.1, known_next new ms e r he h k.2)

  -- the edges of es are made one after the other, and none of them has a number before its turn
  unfoldable pub Fresh : List Edge → List ℕ → Type 0
  Fresh ms [] = Unit
  Fresh ms (e ∷ es) = (number (key e) ms ≡ 0) × (e < 12) × Fresh (ms ++ (key e ∷ [])) es

  -- each edge of r has a number
  unfoldable pub AllMet : List Edge → List ℕ → Type 0
  AllMet ms [] = Unit
  AllMet ms (e ∷ r) = (0 < number (key e) ms) × (e < 12) × AllMet ms r

  -- what is known of the new edges, and of the row once they are made
  pub record Outlook (new : ℕ → Bool) (ms : List Edge) (r : List ℕ) : Type 0 where
    pub fresh : Fresh ms (new_edges new r)
    pub all-met : AllMet (ms ++ map key (new_edges new r)) r

  pub outlook : (r : List ℕ) (new : ℕ → Bool) (ms : List Edge) → Known new ms r → Outlook new ms r
  unfolding Known Fresh AllMet new_edges
  outlook [] new ms k = record { fresh = tt; all-met = tt }
  outlook (e ∷ r) new ms k =
      ⊎_elim
      (λ (t : new e ≡ true).
      let later : ℕ → Bool = λ d. new d && not (eqb d e) in
      let h : number (key e) ms ≡ 0 = subst (λ (b : Bool). Told b (number (key e) ms)) t k.0 in
      let es : List ℕ = new_edges later r in
      let o = outlook r later (ms ++ (key e ∷ [])) (known_next new ms e r k.1 h k.2) in
      let i : number (key e) (ms ++ (key e ∷ [])) ≡ suc (length ms) = number-snoc-same (key e) ms h in
      let a : (ms ++ (key e ∷ [])) ++ map key es ≡ ms ++ (key e ∷ map key es) = append_assoc ms (key e ∷ []) (map key es) in
      let p : 0 < number (key e) ((ms ++ (key e ∷ [])) ++ map key es) = (let q = number_append (key e) (ms ++ (key e ∷ [])) (map key es) (omega arith) in omega arith) in
      record {
        fresh = subst (λ (b : Bool). Fresh ms (cond b (e ∷ es) (new_edges new r))) (sym t) (h, k.1, o.fresh);
        all-met =
            subst (λ (b : Bool). AllMet (ms ++ map key (cond b (e ∷ es) (new_edges new r))) (e ∷ r)) (sym t)
            (subst (λ (l : List Edge). AllMet l (e ∷ r)) a (p, k.1, o.all-met));
      })
      (λ (f : new e ≡ false).
      let h : 0 < number (key e) ms = subst (λ (b : Bool). Told b (number (key e) ms)) f k.0 in
      let es : List ℕ = new_edges new r in
      let o = outlook r new ms k.2 in
      let later : List ℕ = new_edges (λ d. new d && not (eqb d e)) r in
      let p : 0 < number (key e) (ms ++ map key es) = (let q = number_append (key e) ms (map key es) h in omega arith) in
      record {
        fresh = subst (λ (b : Bool). Fresh ms (cond b (e ∷ later) es)) (sym f) o.fresh;
        all-met = subst (λ (b : Bool). AllMet (ms ++ map key (cond b (e ∷ later) es)) (e ∷ r)) (sym f) (p, k.1, o.all-met);
      })
      (bool_cases (new e))

  -- ---- visit by visit

  visit : ℕ → Mesh (List Edge) → Mesh (List Edge)
  visit e s = choose joined (number (key e) s.memory) (visit_at x y z e) s

  choose-new : (i e : ℕ) (s : Mesh (List Edge)) → i ≡ 0
      → choose joined i (visit_at x y z e) s ≡ mesh_of (s.memory ++ (key e ∷ [])) (s.made ++ (visit_at x y z e ∷ [])) (s.indices ++ (length s.made ∷ []))
  unfolding choose joined
  choose-new zero e s h = refl
  choose-new (suc i) e s h = absurd (omega arith)

  choose-old : (i e : ℕ) (s : Mesh (List Edge)) → 0 < i
      → choose joined i (visit_at x y z e) s ≡ mesh_of s.memory s.made (s.indices ++ ((i - 1) ∷ []))
  unfolding choose
  choose-old zero e s h = absurd (omega arith)
  choose-old (suc i) e s h = ap (λ (j : ℕ). mesh_of s.memory s.made (s.indices ++ (j ∷ []))) (let q : i ≡ suc i - 1 = omega arith in q)

  -- the indices of the row, once all is made
  abbrev pub numbers : List Edge → List ℕ → List ℕ
  numbers ms r = map (λ e. number (key e) ms - 1) r

  made-first : (r : List ℕ) (new : ℕ → Bool) (s : Mesh (List Edge)) → length s.made ≡ length s.memory → Known new s.memory r
      → fold visit r s
      ≡ mesh_of (s.memory ++ map key (new_edges new r)) (s.made ++ map (visit_at x y z) (new_edges new r))
      (s.indices ++ numbers (s.memory ++ map key (new_edges new r)) r)
  unfolding fold visit new_edges Known
  made-first [] new s l k = mesh-ext (sym (append-nil s.memory)) (sym (append-nil s.made)) (sym (append-nil s.indices))
  made-first (e ∷ r) new s l k =
      let later : ℕ → Bool = λ d. new d && not (eqb d e) in
      let ms : List Edge = s.memory in
      ⊎_elim
      (λ (t : new e ≡ true).
      let h : number (key e) ms ≡ 0 = subst (λ (b : Bool). Told b (number (key e) ms)) t k.0 in
      let ns : List Edge = ms ++ (key e ∷ []) in
      let es : List ℕ = new_edges later r in
      let u : Mesh (List Edge) = mesh_of ns (s.made ++ (visit_at x y z e ∷ [])) (s.indices ++ (length s.made ∷ [])) in
      let m : length (s.made ++ (visit_at x y z e ∷ [])) ≡ length ns = length-append s.made (visit_at x y z e ∷ []) ∙ ap (λ (i : ℕ). i + 1) l ∙ sym (length-append ms (key e ∷ [])) in
      let a : ns ++ map key es ≡ ms ++ (key e ∷ map key es) = append_assoc ms (key e ∷ []) (map key es) in
      let i : number (key e) ns ≡ suc (length ms) = number-snoc-same (key e) ms h in
      let j : number (key e) (ms ++ (key e ∷ map key es)) ≡ suc (length ms) = ap (number (key e)) (sym a) ∙ number_append (key e) ns (map key es) (omega arith) ∙ i in
      let last : length s.made ≡ number (key e) (ms ++ (key e ∷ map key es)) - 1 = omega arith in
      ap (fold visit r) (choose-new (number (key e) ms) e s h)
      ∙ made-first r later u m (known_next new ms e r k.1 h k.2)
      ∙ mesh-ext a (append_assoc s.made (visit_at x y z e ∷ []) (map (visit_at x y z) es))
      (append_assoc s.indices (length s.made ∷ []) (numbers (ns ++ map key es) r)
      ∙ ap₂ (λ (p : ℕ) (q : List Edge). s.indices ++ (p ∷ numbers q r)) last a)
      ∙ ap (λ (b : Bool).
      mesh_of (ms ++ map key (cond b (e ∷ es) (new_edges new r))) (s.made ++ map (visit_at x y z) (cond b (e ∷ es) (new_edges new r)))
      (s.indices ++ numbers (ms ++ map key (cond b (e ∷ es) (new_edges new r))) (e ∷ r))) (sym t))
      (λ (f : new e ≡ false).
      let h : 0 < number (key e) ms = subst (λ (b : Bool). Told b (number (key e) ms)) f k.0 in
      let es : List ℕ = new_edges new r in
      let u : Mesh (List Edge) = mesh_of ms s.made (s.indices ++ ((number (key e) ms - 1) ∷ [])) in
      let i : number (key e) ms - 1 ≡ number (key e) (ms ++ map key es) - 1 = ap (λ (p : ℕ). p - 1) (sym (number_append (key e) ms (map key es) h)) in
      ap (fold visit r) (choose-old (number (key e) ms) e s h)
      ∙ made-first r new u l k.2
      ∙ mesh-ext refl refl
      (append_assoc s.indices ((number (key e) ms - 1) ∷ []) (numbers (ms ++ map key es) r)
      ∙ ap (λ (p : ℕ). s.indices ++ (p ∷ numbers (ms ++ map key es) r)) i)
      ∙ ap (λ (b : Bool).
      mesh_of (ms ++ map key (cond b (e ∷ new_edges later r) es)) (s.made ++ map (visit_at x y z) (cond b (e ∷ new_edges later r) es))
      (s.indices ++ numbers (ms ++ map key (cond b (e ∷ new_edges later r) es)) (e ∷ r))) (sym f))
      (bool_cases (new e))

-- ---- along the walk

told_of : (k : Edge) (ms : List Edge) (b : Bool) → not (has k ms) ≡ b → Told b (number k ms)
told_of k ms true h =
    ⊎_elim (λ p. p) (λ p. absurd (false≢true (sym (ap not (number-pos k ms p)) ∙ h))) (eq-zero-or-pos (number k ms))
told_of k ms false h =
    ⊎_elim (λ p. absurd (true≢false (sym (ap not (number-zero k ms p)) ∙ h))) (λ p. p) (eq-zero-or-pos (number k ms))

module _ (g : Inside) (n layers z y x : ℕ) (lz : z < layers) (ly : y < n - 1) (lx : x < n - 1) (s : Mesh (List Edge)) (p : Met g n layers z y x 0 s) where
  known-each : (r : List ℕ) → ((j : ℕ) → j < length r → (get_or r j 0 < 12) × (crosses g (key x y z (get_or r j 0)) ≡ true))
      → Known x y z (owns x y z) s.memory r
  unfolding Known
  known-each [] h = tt
  known-each (e ∷ r) h =
      let a = h 0 (omega arith) in (
        told_of (key x y z e) s.memory (owns x y z e)
            (absent-owned g n layers z y x 0 lz ly lx (omega arith) s p e a.0 a.1 ∙ and-true (owns x y z e)),
        a.0,
        known-each r (λ j l. h (suc j) (omega arith)),
      )

  known-cell : Known x y z (owns x y z) s.memory (cell_edges g x y z)
  known-cell = known-each (cell_edges g x y z) (λ j l. (cell_edges-lt g x y z j l, visit-crosses g x y z j l))

  pub cell-outlook : Outlook x y z (owns x y z) s.memory (cell_edges g x y z)
  cell-outlook = outlook x y z (cell_edges g x y z) (owns x y z) s.memory known-cell

  -- the cell makes its new edges, and its indices are the numbers that its row's edges then have
  pub cell-by-ownership :
      cell (hooks joined) g n z y x s
      ≡ mesh_of (s.memory ++ map (key x y z) (new_edges (owns x y z) (cell_edges g x y z))) (s.made ++ map (visit_at x y z) (new_edges (owns x y z) (cell_edges g x y z)))
      (s.indices ++ numbers x y z (s.memory ++ map (key x y z) (new_edges (owns x y z) (cell_edges g x y z))) (cell_edges g x y z))
  unfolding cell hooks joined visit
  cell-by-ownership =
      let l : length s.made ≡ length s.memory = sym (length-map s.made edge_of) ∙ ap length p.edges in
      times-fold (visit x y z) 0 (cell_edges g x y z) s ∙ made-first x y z (cell_edges g x y z) (owns x y z) s l known-cell
