-- `make_all`: what is left of the list, made from here, is the whole of it made from the start.
use mathlib.Core.Path.{◌≡◌}
use mathlib.Core.List.{List}
use Prim.Native.Nat.{ℕ, ◌+◌}
use Rattle.walk_models.specs.Owned.{make_edge}
use Rattle.packed_tables.specs.Unpacked.{unpacked}
use Rattle.lent_mesh.specs.Stored.{store_at}
use Rattle.joined_slots.specs.OneCell.{each}
use Rattle.inner_cells.specs.Ranked.{hand}
use Rattle.joined_edges.proofs.make_all.Given as goal

abbrev pub invariant-loop-edge : goal.invariant-loop-edge
invariant-loop-edge l =
    let cell = l.here.cell in
    let all = l.fn.list in
    let rest = l.edge-iterator in
    let make = make_edge (store_at cell.size.n cell.samples.now) cell.size.n cell.z cell.y cell.x in
    record {
      counted : l.made + rest.count ≡ l.initial.made + all.count;
      whole : (indices : List ℕ) (written : ℕ) → each make (unpacked rest.count rest.word) (hand l.work l.vertices indices l.made written)
          ≡ each make (unpacked all.count all.word) (hand l.initial.work l.initial.vertices indices l.initial.made written);
    }
