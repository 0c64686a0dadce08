-- The two passes: what is counted, and what the walk over the outputs leaves.
use mathlib.Core.Path.{◌≡◌, refl, sym, ap, ◌∙◌}
use mathlib.Core.Bool.{true, false, cond}
use mathlib.Core.Logic.{⊎_elim}
use mathlib.Core.List.{List, [], ◌++◌, map}
use Prim.Native.Nat.{ℕ, ◌+◌, ◌*◌, ◌≤◌, ◌<◌}
use native.Mathlib.Nat.{zero-add}
use native.Mathlib.Omega.{arith}
use lib.Dec.{eqb}
use lib.ListN.{length, get_or, drop, length-map}
use lib.Seq.{sets-eq, drop-drop}
use lib.Ieee.{Float}
use borrow.Author.Tests.{eqb-true}
use Rattle.walk.specs.Walk.{visits}
use Rattle.walk.specs.Cache.{fresh}
use Rattle.walk.specs.Numbering.{joined, crate}
use Rattle.walk.proofs.Bools.{bool_cases}
use Rattle.walk.proofs.Counts.{indices-count}
use Rattle.walk_models.specs.Lent.{untouched}
use Rattle.lent_mesh.specs.Grid.{inside_of, position_at, floats_of}
use Rattle.lent_mesh.proofs.Floats.{floats_of-length, stored_floats}
use Rattle.grid_walk.specs.declared.Span.{Span}
use Rattle.grid_walk.specs.Growth.{GrowsWithin}
use Rattle.row_walk.specs.Steps.{Hand}
use Rattle.grid_walk.specs.Steps.{walk_steps}
use Rattle.held_bits.specs.HeldCell.{Held, held_room}
use Rattle.grid_count.specs.Steps.{count_steps}
use Rattle.grid_count.proofs.Spans.{span-alike}
use Rattle.grid_count.proofs.CountedMesh.{nothing, crate-counted, joined-counted}
use Rattle.outcome.specs.Outcome.{work_room, Surface, surface_of, over}
use Rattle.passes.proofs.Cleared.{cleared, cleared_at, cleared-tail, cleared-same, cleared-length}
use Rattle.passes.proofs.Left.{LeftOf, span_left}

module _ (n numbering : ℕ) (samples : List Float) where
  abbrev s : Surface
  s = surface_of n numbering samples

  -- ---- fill: the walk over the outputs
  pub filled-pass : (k : ℕ) (old left : List ℕ) (floats : List Float) (list : List ℕ) (t : Hand) (span : Span) → k ≡ work_room n → work_room n ≤ length old
      → length t.memory ≡ length old → ((i : ℕ) → i < work_room n → get_or old i 0 ≡ 0) → GrowsWithin (λ k. length (visits (inside_of n samples) n k)) n span → 3 * length s.made ≤ length floats → length s.indices ≤ length list
      → t ≡ walk_steps numbering n samples span.last (untouched old floats list) → left ≡ cleared k t.memory
      → (left ≡ cleared (work_room n) old) × (t.vertices ≡ over (floats_of (map (position_at n samples) s.made)) floats) × (t.indices ≡ over s.indices list)
  filled-pass k old left floats list t span is room size zeros within rv ri f last =
      let g : left ≡ cleared (work_room n) t.memory = last ∙ ap (λ (j : ℕ). cleared j t.memory) is in
      let enough : work_room n ≤ length t.memory = rw size room in
      let w : LeftOf n samples s floats list old t =
      rw f (span_left n numbering samples floats list old room span within (rw f at enough) zeros) in
      let count : length (floats_of (map (position_at n samples) s.made)) ≡ 3 * length s.made =
      floats_of-length (map (position_at n samples) s.made) ∙ ap (λ (k : ℕ). 3 * k) (length-map s.made (position_at n samples)) in (
        g ∙ cleared-same (work_room n) t.memory old w.tail,
        w.vertices-are ∙ stored_floats n samples s.made floats rv ∙ ap (λ (k : ℕ). floats_of (map (position_at n samples) s.made) ++ drop k floats) (sym count),
        w.indices-are ∙ sets-eq s.indices list 0 (omega arith) ∙ ap (λ (k : ℕ). s.indices ++ drop k list) (zero-add (length s.indices)),
      )

-- ---- count

past : (n : ℕ) (work old : List ℕ) → drop (held_room n) work ≡ drop (held_room n) old → drop (work_room n) work ≡ drop (work_room n) old
past n work old e =
    let all : held_room n + (6 * (n * n) + 4 * n) ≡ work_room n = omega arith in
    let beyond : (l : List ℕ) → drop (6 * (n * n) + 4 * n) (drop (held_room n) l) ≡ drop (work_room n) l =
    λ l. drop-drop (6 * (n * n) + 4 * n) (held_room n) l ∙ ap (λ (k : ℕ). drop k l) all in
    sym (beyond work) ∙ ap (drop (6 * (n * n) + 4 * n)) e ∙ beyond old

-- from memory in which nothing is held, and cleared afterwards
pub counted-pass : (n numbering : ℕ) (samples : List Float) (k : ℕ) (old work left : List ℕ) (t : Held) → k ≡ work_room n → work_room n ≤ length old
    → work ≡ cond (eqb numbering 0) (cleared (held_room n) old) old → t ≡ count_steps numbering n (inside_of n samples) n (nothing work) → left ≡ cleared k t.work
    → (left ≡ cleared (work_room n) old) × (t.made ≡ length (surface_of n numbering samples).made) × (t.written ≡ length (surface_of n numbering samples).indices)
unfolding surface_of
counted-pass n numbering samples k old work left t is room first f last =
    let g : left ≡ cleared (work_room n) t.work = last ∙ ap (λ (j : ℕ). cleared j t.work) is in
    ⊎_elim
    (λ (b : eqb numbering 0 ≡ true).
    let e : work ≡ cleared (held_room n) old = first ∙ rw b refl in
    let l : length work ≡ length old = ap length e ∙ cleared-length (held_room n) old (omega arith) in
    let zero : numbering ≡ 0 = eqb-true numbering 0 b in
    let c = crate-counted n (inside_of n samples) work (omega arith) n (λ i h. rw e (cleared_at (held_room n) old i h)) in
    let same : t ≡ count_steps 0 n (inside_of n samples) n (nothing work) = f ∙ ap (λ (j : ℕ). count_steps j n (inside_of n samples) n (nothing work)) zero in
    rw (b, same) (
      rw same at g ∙ cleared-same (work_room n) _ old (past n _ old (c.tail ∙ rw e (cleared-tail (held_room n) old))),
      c.made,
      c.written,
    ))
    (λ (b : eqb numbering 0 ≡ false).
    let e : work ≡ old = first ∙ rw b refl in
    let c = joined-counted n (inside_of n samples) work (rw e (omega arith)) numbering b n in
    rw (b, f) (
      rw f at g ∙ cleared-same (work_room n) _ old (past n _ old (c.tail ∙ ap (drop (held_room n)) e)),
      c.made,
      c.written,
    ))
    (bool_cases (eqb numbering 0))

-- what is counted after each layer are the visits so far, so both grow within the same layers
pub counted-span : (n numbering : ℕ) (samples : List Float) (old work : List ℕ) (span : Span) → work_room n ≤ length old
    → work ≡ cond (eqb numbering 0) (cleared (held_room n) old) old
    → GrowsWithin (λ k. (count_steps numbering n (inside_of n samples) k (nothing work)).written) n span
    → GrowsWithin (λ k. length (visits (inside_of n samples) n k)) n span
counted-span n numbering samples old work span room first within =
    ⊎_elim
    (λ (b : eqb numbering 0 ≡ true).
    let e : work ≡ cleared (held_room n) old = first ∙ rw b refl in
    let l : length work ≡ length old = ap length e ∙ cleared-length (held_room n) old (omega arith) in
    let zero : numbering ≡ 0 = eqb-true numbering 0 b in
    span-alike (λ k. (count_steps numbering n (inside_of n samples) k (nothing work)).written) (λ k. length (visits (inside_of n samples) n k)) n span
    (λ k.
    ap (λ (j : ℕ). (count_steps j n (inside_of n samples) k (nothing work)).written) zero
    ∙ (crate-counted n (inside_of n samples) work (omega arith) k (λ i h. rw e (cleared_at (held_room n) old i h))).written
    ∙ indices-count (crate n) fresh (inside_of n samples) n k)
    within)
    (λ (b : eqb numbering 0 ≡ false).
    let e : work ≡ old = first ∙ rw b refl in
    span-alike (λ k. (count_steps numbering n (inside_of n samples) k (nothing work)).written) (λ k. length (visits (inside_of n samples) n k)) n span
    (λ k. (joined-counted n (inside_of n samples) work (rw e (omega arith)) numbering b k).written ∙ indices-count joined [] (inside_of n samples) n k)
    within)
    (bool_cases (eqb numbering 0))
