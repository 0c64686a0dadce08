-- Layers whose cells visit nothing. Before anything is made they leave all as it was; afterwards they change no output, and of the working memory only the
-- words that the size asks for. For `walk`, which begins past such layers, and for `passes::fill`, whose mesh is that of all layers.
use mathlib.Core.Path.{◌≡◌, refl, sym, ap, ◌∙◌}
use mathlib.Core.Bool.{true, false}
use mathlib.Core.Logic.{⊎_elim}
use mathlib.Core.List.{List, []}
use Prim.Native.Nat.{ℕ, zero, suc, ◌+◌, ◌-◌, ◌*◌, ◌≤◌, ◌<◌}
use native.Mathlib.Decide.{dec_lt}
use native.Mathlib.Omega.{arith}
use lib.Dec.{eqb}
use lib.ListN.{length, get_or, set, drop}
use lib.Seq.{set-get_or}
use lib.Ieee.{Float}
use Rattle.walk.specs.Walk.{cell_edges, times, walk, visits}
use Rattle.walk.proofs.Bools.{bool_cases}
use Rattle.walk_models.specs.Lent.{untouched}
use Rattle.walk_models.specs.Owned.{cells_of_row, cells_of_layer}
use Rattle.walk_models.specs.CacheMemory.{layer_place, row_place, clear_row}
use Rattle.walk_models.proofs.CacheViews.{row-cleared}
use Rattle.lent_mesh.specs.Grid.{inside_of}
use Rattle.sign_cells.proofs.Turns.{times-idle}
use Rattle.grid_walk.specs.declared.Span.{Span}
use Rattle.grid_walk.specs.Growth.{GrowsWithin}
use Rattle.row_walk.specs.Steps.{Hand, row_parity, cell_step}
use Rattle.grid_walk.specs.Steps.{layer_step, walk_steps}
use Rattle.row_walk.proofs.OneCell.{parity-le}
use Rattle.row_walk.specs.IdleCells.{cell_step-idle}
use Rattle.row_walk.proofs.WordLoop.{row-idle}
use Rattle.grid_walk.proofs.NoVisits.{no-visits}

-- the words that a size asks for
abbrev room : ℕ → ℕ
room n = 8 * (n * n) + 6 * n

-- ---- clearing a cache row

-- that is zero
clear-zeros : (n r k : ℕ) (w : List ℕ) → r ≤ 1 → k ≤ n → ((i : ℕ) → i < room n → get_or w i 0 ≡ 0) → clear_row n r k w ≡ w
unfolding clear_row times
clear-zeros n r zero w hr hk zeros = refl
clear-zeros n r (suc k) w hr hk zeros =
    let same : (d : ℕ) → d < 3 → set w (row_place n r k d) 0 ≡ w = λ d h. ap (set w (row_place n r k d)) (sym (zeros (row_place n r k d) (omega arith))) ∙ set-get_or w (row_place n r k d) 0 in
    ap (λ (m : List ℕ). set (set (set m (row_place n r k 0) 0) (row_place n r k 1) 0) (row_place n r k 2) 0) (clear-zeros n r k w hr (omega arith) zeros)
    ∙ ap (λ (m : List ℕ). set (set m (row_place n r k 1) 0) (row_place n r k 2) 0) (same 0 (omega arith))
    ∙ ap (λ (m : List ℕ). set m (row_place n r k 2) 0) (same 1 (omega arith))
    ∙ same 2 (omega arith)

-- whatever it holds
clear-past : (n r : ℕ) (w : List ℕ) → r ≤ 1 → room n ≤ length w → (length (clear_row n r n w) ≡ length w) × (drop (room n) (clear_row n r n w) ≡ drop (room n) w)
clear-past n r w hr enough =
    let v =
    row-cleared n w enough w 0 r (λ p d. get_or w (layer_place 0 p d) 0) (λ p d. get_or w (layer_place (1 - 0) p d) 0) (λ x d. get_or w (row_place n r x d) 0) (λ x d. get_or w (row_place n (1 - r) x d) 0)
    (record {
      l_le = omega arith;
      r-le = hr;
      size = refl;
      tail = refl;
      lay0 = λ p d hp hd. refl;
      lay1 = λ p d hp hd. refl;
      row0 = λ x d hx hd. refl;
      row1 = λ x d hx hd. refl;
    }) in
    (v.size, v.tail)

module _ (numbering n : ℕ) (samples : List Float) where
  -- no cell of layer z visits anything
  abbrev Idle : ℕ → Type 0
  Idle z = (y x : ℕ) → y < n - 1 → x < n - 1 → cell_edges (inside_of n samples) x y z ≡ []

  abbrev step : ℕ → Hand → Hand
  step z t = layer_step numbering n samples z (cells_of_layer (cell_step numbering n samples) n z (n - 1) t)

  cells-idle : (z : ℕ) (s : Hand) → Idle z → s ≡ cells_of_layer (cell_step numbering n samples) n z (n - 1) s
  unfolding cells_of_layer
  cells-idle z s none =
      times-idle (λ y t. cells_of_row (cell_step numbering n samples) n z y (n - 1) t) s (n - 1)
      (λ y h. sym (row-idle (cell_step numbering) n samples z y s (cell_step-idle numbering) (λ x l. none y x h (omega arith))))

  -- ---- before anything is made

  layer-still : (z : ℕ) (s : Hand) → ((i : ℕ) → i < room n → get_or s.memory i 0 ≡ 0) → layer_step numbering n samples z s ≡ s
  unfolding layer_step
  layer-still z s zeros =
      ⊎_elim
      (λ (b : eqb numbering 0 ≡ true).
      rw b
      (ap (λ (w : List ℕ). record { memory = w; vertices = s.vertices; indices = s.indices; made = s.made; written = s.written })
      (clear-zeros n (row_parity n (suc z) 0) n s.memory (parity-le _) (omega arith) zeros)))
      (λ (b : eqb numbering 0 ≡ false). rw b refl)
      (bool_cases (eqb numbering 0))

  walk_steps-still : (k : ℕ) (s : Hand) → ((i : ℕ) → i < room n → get_or s.memory i 0 ≡ 0) → ((z : ℕ) → z < k → Idle z)
      → s ≡ walk_steps numbering n samples k s
  unfolding walk_steps
  walk_steps-still k s zeros none =
      times-idle step s k (λ z h. ap (layer_step numbering n samples z) (sym (cells-idle z s (none z h))) ∙ layer-still z s zeros)

  -- ---- afterwards

  -- the outputs are the same, and the working memory past what the size asks for
  pub record SameMesh (s t : Hand) : Type 0 where
    pub vertices : t.vertices ≡ s.vertices
    pub indices : t.indices ≡ s.indices
    pub made : t.made ≡ s.made
    pub written : t.written ≡ s.written
    pub size : length t.memory ≡ length s.memory
    pub tail : drop (room n) t.memory ≡ drop (room n) s.memory

  layer-same : (z : ℕ) (s t : Hand) → room n ≤ length s.memory → SameMesh s t → SameMesh s (layer_step numbering n samples z t)
  unfolding layer_step
  layer-same z s t enough m =
      ⊎_elim
      (λ (b : eqb numbering 0 ≡ true).
      let c = clear-past n (row_parity n (suc z) 0) t.memory (parity-le _) (rw m.size enough) in
      rw b (record { vertices = m.vertices; indices = m.indices; made = m.made; written = m.written; size = c.0 ∙ m.size; tail = c.1 ∙ m.tail }))
      (λ (b : eqb numbering 0 ≡ false). rw b m)
      (bool_cases (eqb numbering 0))

  walk_steps-same : (k m : ℕ) (s : Hand) → room n ≤ length (walk_steps numbering n samples k s).memory → k ≤ m
      → ((z : ℕ) → k ≤ z → z < m → Idle z)
      → SameMesh (walk_steps numbering n samples k s) (walk_steps numbering n samples m s)
  unfolding walk_steps times
  walk_steps-same k zero s enough h none =
      let all : k ≡ 0 = omega arith in
      rw all (record { vertices = refl; indices = refl; made = refl; written = refl; size = refl; tail = refl })
  walk_steps-same k (suc m) s enough h none =
      elim (dec_lt m k) [
        | yes q ↦
            let all : k ≡ suc m = omega arith in
            rw all (record { vertices = refl; indices = refl; made = refl; written = refl; size = refl; tail = refl })
        | no q ↦
            rw (sym (cells-idle m (times m step s) (none m (omega arith) (omega arith))))
            (layer-same m (times k step s) (times m step s) enough (walk_steps-same k m s enough (omega arith) (λ z a b. none z a (omega arith))))
      ]

  -- ---- the layers outside of the span

  module _ (span : Span) (within : GrowsWithin (λ k. length (visits (inside_of n samples) n k)) n span) where
    -- the layers before the first of the span have nothing to make
    pub walk_steps-begun : (work : List ℕ) (vertices : List Float) (indices : List ℕ) → ((i : ℕ) → i < room n → get_or work i 0 ≡ 0)
        → walk_steps numbering n samples span.first (untouched work vertices indices) ≡ untouched work vertices indices
    unfolding visits walk times
    walk_steps-begun work vertices indices zeros =
        sym (walk_steps-still span.first (untouched work vertices indices) zeros (λ z h y x. no-visits (inside_of n samples) n 0 span.first (sym within.none_before) z y x (omega arith) h))

    -- and at its last layer the mesh is that of all
    pub walk_steps-ended : (s : Hand) → room n ≤ length (walk_steps numbering n samples span.last s).memory
        → SameMesh (walk_steps numbering n samples span.last s) (walk_steps numbering n samples n s)
    walk_steps-ended s enough =
        walk_steps-same span.last n s enough within.most (λ z a b y x. no-visits (inside_of n samples) n span.last n within.none_after z y x a b)
