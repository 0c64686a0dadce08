-- `put_numbers`: what is left of the triangles, put from here, is the whole of them put from the start.
use mathlib.Core.Path.{ap, ◌∙◌}
use mathlib.Core.List.{List}
use Prim.Native.Nat.{ℕ}
use native.Mathlib.Omega.{arith}
use lib.ListN.{length}
use Rattle.packed_tables.specs.Listed.{triangles_left}
use Rattle.packed_tables.proofs.PackedEdges.{triangle-known, triangles-length}
use Rattle.packed_tables.proofs.NumbersPut.{turn-put, all-put}
use Rattle.packed_tables.proofs.edges.PackedTriangles.put_numbers.Goals as goal

pub number-first-requires : goal.number-first-requires
number-first-requires g c = c.requires.callable c.in-Some.a (triangle-known c.loop-a.a-iterator c.in-Some.a c.in-Some.b c.in-Some.c _ c.in-Some.ensures.steps).0

pub number-second-requires : goal.number-second-requires
number-second-requires g c = c.requires.callable c.in-Some.b (triangle-known c.loop-a.a-iterator c.in-Some.a c.in-Some.b c.in-Some.c _ c.in-Some.ensures.steps).1

pub number-third-requires : goal.number-third-requires
number-third-requires g c = c.requires.callable c.in-Some.c (triangle-known c.loop-a.a-iterator c.in-Some.a c.in-Some.b c.in-Some.c _ c.in-Some.ensures.steps).2

pub put_three-requires : goal.put_three-requires
put_three-requires g c =
    let one = ap (λ (ts : List (ℕ × ℕ × ℕ)). length ts) c.in-Some.ensures.steps in
    omega (arith, one, c.loop-a.invariant.counted, triangles-length c.args.self.count c.args.self.word, c.requires.place_fits)

pub overflow_add-place : goal.overflow_add-place
overflow_add-place g c =
    let one = ap (λ (ts : List (ℕ × ℕ × ℕ)). length ts) c.in-Some.ensures.steps in
    omega (arith, one, c.loop-a.invariant.counted, triangles-length c.args.self.count c.args.self.word, c.requires.place_fits)

pub loop-a-preserved : goal.loop-a-preserved
loop-a-preserved g c =
    let inv = c.loop-a.invariant in
    let known = triangle-known c.loop-a.a-iterator c.in-Some.a c.in-Some.b c.in-Some.c _ c.in-Some.ensures.steps in
    let one = ap (λ (ts : List (ℕ × ℕ × ℕ)). length ts) c.in-Some.ensures.steps in
    record {
      can = tt;
      finite = tt;
      counted = omega (arith, one, inv.counted);
      kept = c.put_three.auto.indices ∙ inv.kept;
      whole = λ f tells.
          turn-put f c.in-Some.a c.in-Some.b c.in-Some.c c.number-first.result c.number-second.result c.number-third.result
          (triangles_left c.loop-a.a-iterator) _ c.loop-a.place c.loop-a.indices c.put_three.new.indices c.in-Some.ensures.steps
          (tells c.in-Some.a c.number-first.result known.0 c.number-first.ensures)
          (tells c.in-Some.b c.number-second.result known.1 c.number-second.ensures)
          (tells c.in-Some.c c.number-third.result known.2 c.number-third.ensures)
          c.put_three.ensures
          ∙ inv.whole f tells;
    }

pub returns-clause-by_number : goal.returns-clause-by_number
returns-clause-by_number g c f tells =
    all-put f (triangles_left c.loop-a.a-iterator) c.loop-a.place c.loop-a.indices c.in-None.ensures.steps.0 ∙ c.loop-a.invariant.whole f tells

pub returns-clause-place_value : goal.returns-clause-place_value
returns-clause-place_value g c =
    let none = ap (λ (ts : List (ℕ × ℕ × ℕ)). length ts) c.in-None.ensures.steps.0 in
    omega (arith, none, c.loop-a.invariant.counted, triangles-length c.args.self.count c.args.self.word)
