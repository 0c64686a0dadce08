-- The refusals of vertices and indices, each from the two searches. The reader and the writer cite these.
use Rattle.std.proofs.Common.{◌≡◌, ℕ, ◌+◌, ◌*◌, length, Some, None}
use Rattle.mesh_record.specs.Mesh.{Mesh, vertex_count, finite, below}
use Rattle.mesh_record.specs.Refusals.{none, malformed, lowest_bad, contents}

module _ (start : ℕ) (m : Mesh) where
  pub contents-coordinate : (i : ℕ) → Some i ≡ lowest_bad finite m.coordinates → malformed (start + 4 * i) ≡ contents start m
  unfolding contents
  contents-coordinate i bad = rw (← bad)

  module _ (finite-all : None ≡ lowest_bad finite m.coordinates) where
    pub contents-index : (i : ℕ) → Some i ≡ lowest_bad (below (vertex_count m)) m.indices → malformed (start + 4 * length m.coordinates + 4 * i) ≡ contents start m
    unfolding contents
    contents-index i bad = rw (← finite-all, ← bad)

    pub contents-none : None ≡ lowest_bad (below (vertex_count m)) m.indices → none ≡ contents start m
    unfolding contents
    contents-none below-all = rw (← finite-all, ← below-all)
