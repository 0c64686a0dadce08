-- The refusal of a mesh from those of its parts, with the counts as the code has them. `check_contents`, `check`, `write_mesh` and the
-- round trips cite these.
use mathlib.Core.Path.{◌≡◌, sym, ◌∙◌}
use mathlib.Core.List.{List, map}
use Prim.Native.Nat.{ℕ, ◌+◌, ◌*◌, ◌/◌}
use lib.ListN.{length, length-map}
use lib.Ieee.{Float, binary32, to_bits}
use Rattle.std.proofs.Common.{Some, None}
use Rattle.std.specs.Result.{result_and}
use Rattle.mesh_record.specs.Mesh.{Mesh, finite, below}
use Rattle.mesh_record.specs.Refusals.{none, malformed, opening, lowest_bad, contents}
use Rattle.mesh_record.proofs.Passed.{part-passed}
use Rattle.mesh_write.specs.Writing.{mesh_of, Fits, fields_of, refusal_of, put, writing}
use Rattle.mesh_write.proofs.Fields.{fields_of-known}

pub bits-length : (coordinates : List Float) → length (map (to_bits binary32) coordinates) ≡ length coordinates
bits-length coordinates = length-map coordinates (to_bits binary32)

-- ---- vertices and indices

module _ (coordinates : List Float) (indices : List ℕ) where
  pub contents_of-coordinate : (i : ℕ) → Some i ≡ lowest_bad finite (map (to_bits binary32) coordinates) → malformed (28 + 4 * i) ≡ contents 28 (mesh_of 0 0 coordinates indices)
  unfolding contents
  contents_of-coordinate i h = rw (← h)

  module _ (finite-all : None ≡ lowest_bad finite (map (to_bits binary32) coordinates)) where
    pub contents_of-index : (i : ℕ) → Some i ≡ lowest_bad (below (length coordinates / 3)) indices
        → malformed (28 + 4 * length coordinates + 4 * i) ≡ contents 28 (mesh_of 0 0 coordinates indices)
    unfolding contents
    contents_of-index i h = rw (← finite-all, bits-length coordinates, ← h)

    pub contents_of-passed : None ≡ lowest_bad (below (length coordinates / 3)) indices → none ≡ contents 28 (mesh_of 0 0 coordinates indices)
    unfolding contents
    contents_of-passed h = rw (← finite-all, bits-length coordinates, ← h)

-- ---- a mesh

-- the parts with the counts as the code has them
pub refusal_of_parts : (version size numbering : ℕ) (coordinates : List Float) (indices : List ℕ)
    → refusal_of version (mesh_of size numbering coordinates indices)
    ≡ result_and (opening version size numbering) (result_and (fields_of (length coordinates) (length indices)) (contents 28 (mesh_of 0 0 coordinates indices)))
unfolding refusal_of contents
refusal_of_parts version size numbering coordinates indices = rw (bits-length coordinates)

-- the counts of a mesh that is not refused fit their fields
pub refusal_of-fits : (version size numbering : ℕ) (coordinates : List Float) (indices : List ℕ)
    → refusal_of version (mesh_of size numbering coordinates indices) ≡ none → Fits (length coordinates) (length indices)
refusal_of-fits version size numbering coordinates indices h =
    let rest = part-passed (opening version size numbering) _ (sym (refusal_of_parts version size numbering coordinates indices) ∙ h) in
    fields_of-known (length coordinates) (length indices) (part-passed (fields_of (length coordinates) (length indices)) _ rest.1).0

-- ---- what is left

module _ (version : ℕ) (m : Mesh) (out : List ℕ) where
  pub writing-passed : none ≡ refusal_of version m → put m out ≡ writing version m out
  unfolding writing
  writing-passed is = rw (← is)
