-- `make_all`: what is left of the list, made from here, is the whole of it made from the start.
use mathlib.Core.Path.{refl, sym, ap, ◌∙◌}
use Prim.Native.Nat.{◌+◌}
use native.Mathlib.Omega.{arith}
use Rattle.walk_models.specs.Owned.{make_edge}
use Rattle.packed_tables.specs.declared.edges.PackedEdges.{PackedEdges}
use Rattle.packed_tables.specs.Unpacked.{unpacked}
use Rattle.lent_mesh.specs.Stored.{store_at}
use Rattle.joined_slots.specs.OneCell.{each}
use Rattle.inner_cells.specs.Ranked.{hand}
use Rattle.joined_edges.proofs.PackedSteps.{count-next, count-none, edge-known, each_none, make-next}
use Rattle.joined_edges.proofs.make_all.Goals as goal

pub loop-edge-init : goal.loop-edge-init
loop-edge-init c =
    let args = c.args in
    let cell = args.here.cell in
    let make = make_edge (store_at cell.size.n cell.samples.now) cell.size.n cell.z cell.y cell.x in
    let same = c.into_iter-edge-iterator.ensures.into_iter_gives in
    record {
      counted = ap (λ (list : PackedEdges). args.made + list.count) same;
      whole = λ l written. ap (λ (list : PackedEdges). each make (unpacked list.count list.word) (hand args.work.now args.vertices.now l args.made written)) same;
    }

pub place-requires : goal.place-requires
place-requires c = edge-known _ _ _ c.in-Some.ensures.steps c.loop-edge.edge-iterator.known

pub put_vertex-requires : goal.put_vertex-requires
put_vertex-requires c = edge-known _ _ _ c.in-Some.ensures.steps c.loop-edge.edge-iterator.known

pub overflow_add-made : goal.overflow_add-made
overflow_add-made c =
    let more = count-next _ _ _ _ _ c.in-Some.ensures.steps in
    omega (arith, c.loop-edge.invariant.counted, c.requires.list_bound, c.requires.n_in_bounds.1)

pub loop-edge-preserved : goal.loop-edge-preserved
loop-edge-preserved c =
    let cell = c.args.here.cell in
    let more = count-next _ _ _ _ _ c.in-Some.ensures.steps in
    record {
      counted = omega (arith, c.loop-edge.invariant.counted);
      whole = λ l written.
          sym (make-next (store_at cell.size.n cell.samples.now) cell.size.n cell.x cell.y cell.z c.in-Some.edge c.place.result c.loop-edge.made written _ _
          c.loop-edge.work l _ c.loop-edge.vertices _ c.in-Some.ensures.steps c.place.ensures.slot_of refl c.put_vertex.ensures)
          ∙ c.loop-edge.invariant.whole l written;
    }

pub returns-clause-by_index : goal.returns-clause-by_index
returns-clause-by_index c l written =
    let cell = c.args.here.cell in
    sym (each_none (make_edge (store_at cell.size.n cell.samples.now) cell.size.n cell.z cell.y cell.x) _ _ c.in-None.ensures.steps.0) ∙ c.loop-edge.invariant.whole l written

pub returns-clause-made_value : goal.returns-clause-made_value
returns-clause-made_value c =
    let none = count-none _ _ c.in-None.ensures.steps.0 in
    omega (arith, c.loop-edge.invariant.counted)
