-- `put_numbers`: what is left of the triangles, put from here, is the whole of them put from the start.
use mathlib.Core.Path.{◌≡◌}
use Prim.Native.Nat.{ℕ, ◌+◌, ◌*◌, ◌<◌}
use lib.ListN.{length}
use Rattle.packed_tables.specs.Listed.{triangles_left, numbers_put}
use Rattle.packed_tables.proofs.edges.PackedTriangles.put_numbers.Given as goal

abbrev pub invariant-loop-a : goal.invariant-loop-a
invariant-loop-a g l =
    record {
      can : (goal.iterator-loop-a g).can_next l.a-iterator;
      finite : (goal.iterator-loop-a g).is_finite l.a-iterator;
      counted : l.place + 3 * length (triangles_left l.a-iterator) ≡ l.initial.place + 3 * length (triangles_left l.fn.self);
      kept : length l.indices ≡ length l.initial.indices;
      whole : (f : ℕ → ℕ) → ((edge k : ℕ) → edge < 12 → goal.F-post g l.number edge k → k ≡ f edge)
          → numbers_put f (triangles_left l.a-iterator) l.place l.indices ≡ numbers_put f (triangles_left l.fn.self) l.initial.place l.initial.indices;
    }
