-- The outcome by cause, each from the tests that select it. The proofs of `extract` and `meshed` cite these and leave the definition shut.
use mathlib.Core.Path.{◌≡◌, sym, ◌∙◌}
use mathlib.Core.Bool.{true, false}
use mathlib.Core.Logic.{⊎_elim}
use mathlib.Core.List.{List, map}
use Prim.Native.Nat.{ℕ, ◌+◌, ◌*◌, ◌≤◌, ◌<◌}
use native.Mathlib.Omega.{arith}
use lib.Dec.{ltb}
use lib.ListN.{length, replicate}
use lib.Ieee.{Float}
use borrow.Author.Tests.{lt-ltb, le-ltb, eq-eqb, ne_eqb, ltb-true, ltb-false}
use Rattle.walk.proofs.Bools.{bool_cases}
use Rattle.lent_mesh.specs.Grid.{position_at, floats_of}
use Rattle.sample_check.specs.Samples.{lowest_bad}
use Rattle.outcome.specs.Outcome.{Outcome, left, work_room, Surface, surface_of, over, refused, meshed, filled, outcome}
use Rattle.outcome.specs.declared.Answer.{Answer}

module _ (n numbering : ℕ) (samples : List Float) (work : List ℕ) (vertices : List Float) (indices : List ℕ) where
  abbrev ends : Outcome → Type 0
  ends o = outcome n numbering samples work vertices indices ≡ o

  abbrev refuses : ℕ → ℕ → Type 0
  refuses cause place = ends (refused n numbering samples work vertices indices cause place)

  pub size-under : n < 2 → refuses 1 0
  unfolding outcome
  size-under h = rw (lt-ltb n 2 h)

  pub size-over : 2 ≤ n → 128 < n → refuses 1 0
  unfolding outcome
  size-over l h = rw (le-ltb n 2 l, lt-ltb 128 n h)

  pub size-outside : (2 ≤ n → n ≤ 128 → ⊥) → refuses 1 0
  size-outside none =
      ⊎_elim (λ (b : ltb n 2 ≡ true). size-under (ltb-true n 2 b))
      (λ (b : ltb n 2 ≡ false). let least = ltb-false n 2 b in let over = none least in size-over least (omega (arith, over)))
      (bool_cases (ltb n 2))

  module _ (least : 2 ≤ n) (most : n ≤ 128) where
    pub numbering-over : 1 < numbering → refuses 2 0
    unfolding outcome
    numbering-over h = rw (le-ltb n 2 least, le-ltb 128 n most, lt-ltb 1 numbering h)

    module _ (known : numbering ≤ 1) where
      pub samples-not-whole : (length samples ≡ n * n * (n + 1) → ⊥) → refuses 3 0
      unfolding outcome
      samples-not-whole h = rw (le-ltb n 2 least, le-ltb 128 n most, le-ltb 1 numbering known, ne_eqb (length samples) (n * n * (n + 1)) h)

      module _ (whole : length samples ≡ n * n * (n + 1)) where
        pub work-short : length work < work_room n → refuses 4 0
        unfolding outcome
        work-short h =
            rw (le-ltb n 2 least, le-ltb 128 n most, le-ltb 1 numbering known, eq-eqb (length samples) (n * n * (n + 1)) whole, lt-ltb (length work) (work_room n) h)

        module _ (room : work_room n ≤ length work) where
          pub sample-bad : lowest_bad samples < length samples → refuses 5 (lowest_bad samples)
          unfolding outcome
          sample-bad h =
              rw (
                le-ltb n 2 least,
                le-ltb 128 n most,
                le-ltb 1 numbering known,
                eq-eqb (length samples) (n * n * (n + 1)) whole,
                le-ltb (length work) (work_room n) room,
                lt-ltb (lowest_bad samples) (length samples) h,
              )

          pub accepted : length samples ≤ lowest_bad samples → ends (filled n numbering samples work vertices indices (surface_of n numbering samples))
          unfolding outcome
          accepted h =
              rw (
                le-ltb n 2 least,
                le-ltb 128 n most,
                le-ltb 1 numbering known,
                eq-eqb (length samples) (n * n * (n + 1)) whole,
                le-ltb (length work) (work_room n) room,
                le-ltb (lowest_bad samples) (length samples) h,
              )

  -- ---- an accepted grid

  module _ (s : Surface) where
    abbrev comes : Outcome → Type 0
    comes o = filled n numbering samples work vertices indices s ≡ o

    abbrev with : ℕ → List Float → List ℕ → Outcome
    with cause floats list = meshed n numbering samples work vertices indices cause s floats list

    pub vertices-short : length vertices < 3 * length s.made → comes (with 6 vertices indices)
    unfolding filled
    vertices-short h = rw (lt-ltb (length vertices) (3 * length s.made) h)

    pub indices-short : 3 * length s.made ≤ length vertices → length indices < length s.indices → comes (with 7 vertices indices)
    unfolding filled
    indices-short l h = rw (le-ltb (length vertices) (3 * length s.made) l, lt-ltb (length indices) (length s.indices) h)

    pub room-enough : 3 * length s.made ≤ length vertices → length s.indices ≤ length indices
        → comes (with 0 (over (floats_of (map (position_at n samples) s.made)) vertices) (over s.indices indices))
    unfolding filled
    room-enough l h = rw (le-ltb (length vertices) (3 * length s.made) l, le-ltb (length indices) (length s.indices) h)

    -- the answer and the cleared memory are those of the surface, from the counts that were found
    pub meshed-left : (cause made written : ℕ) (answer : Answer) (left-work : List ℕ) (floats : List Float) (list : List ℕ)
        → made ≡ length s.made → written ≡ length s.indices → answer ≡ record { cause = cause; place = 0; vertices = made; indices = written }
        → left-work ≡ over (replicate (work_room n) 0) work → left answer left-work floats list ≡ with cause floats list
    meshed-left cause made written answer left-work floats list m w a e = rw (a, e, m, w)

    pub vertices-left : (made written : ℕ) (answer : Answer) (left-work : List ℕ)
        → made ≡ length s.made → written ≡ length s.indices → answer ≡ record { cause = 6; place = 0; vertices = made; indices = written }
        → left-work ≡ over (replicate (work_room n) 0) work → length vertices < 3 * made
        → left answer left-work vertices indices ≡ filled n numbering samples work vertices indices s
    vertices-left made written answer left-work m w a e h =
        meshed-left 6 made written answer left-work vertices indices m w a e ∙ sym (vertices-short (omega arith))

    pub indices-left : (made written : ℕ) (answer : Answer) (left-work : List ℕ)
        → made ≡ length s.made → written ≡ length s.indices → answer ≡ record { cause = 7; place = 0; vertices = made; indices = written }
        → left-work ≡ over (replicate (work_room n) 0) work → 3 * made ≤ length vertices → length indices < written
        → left answer left-work vertices indices ≡ filled n numbering samples work vertices indices s
    indices-left made written answer left-work m w a e l h =
        meshed-left 7 made written answer left-work vertices indices m w a e ∙ sym (indices-short (omega arith) (omega arith))

    pub done-left : (made written : ℕ) (answer : Answer) (left-work : List ℕ) (floats : List Float) (list : List ℕ)
        → made ≡ length s.made → written ≡ length s.indices → answer ≡ record { cause = 0; place = 0; vertices = made; indices = written }
        → left-work ≡ over (replicate (work_room n) 0) work
        → floats ≡ over (floats_of (map (position_at n samples) s.made)) vertices → list ≡ over s.indices indices
        → 3 * length s.made ≤ length vertices → length s.indices ≤ length indices
        → left answer left-work floats list ≡ filled n numbering samples work vertices indices s
    done-left made written answer left-work floats list m w a e f g rv ri =
        meshed-left 0 made written answer left-work floats list m w a e ∙ rw (f, g) (sym (room-enough rv ri))
