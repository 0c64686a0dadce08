-- The mesh in a record of the right length, and what the searches among its bytes find. `check_contents`, the reader and the round trips cite these.
use mathlib.Core.Path.{◌≡◌, sym, ap, ap₂, ◌∙◌}
use mathlib.Core.List.{List, map}
use Prim.Native.Nat.{ℕ, ◌+◌, ◌-◌, ◌*◌, ◌/◌, ◌≤◌}
use native.Mathlib.Omega.{arith}
use lib.ListN.{length, take, drop, length-drop}
use lib.Seq.{take_all, drop-drop}
use Rattle.std.proofs.Common.{w32}
use Rattle.std.specs.Int.{from_le_bytes}
use Rattle.std.specs.Simd.{first_chunks}
use Rattle.little_endian.specs.Words.{word_at, words}
use Rattle.little_endian.proofs.Words.{words-length}
use Rattle.little_endian.proofs.Runs.{words_from-length}
use Rattle.mesh_record.specs.Mesh.{vertex_count}
use Rattle.mesh_checks.specs.Reading.{mesh_in}
use Rattle.mesh_checks.proofs.Chunks.{chunk-words, words-take}

third : (k : ℕ) → 3 * k / 3 ≡ k
third k = omega arith

module _ (bytes : List ℕ) (whole : length bytes ≡ 28 + 12 * word_at bytes 12 + 4 * word_at bytes 20) where
  pub coordinates-length : length (mesh_in bytes).coordinates ≡ 3 * word_at bytes 12
  unfolding mesh_in
  coordinates-length = words_from-length bytes 28 (3 * word_at bytes 12) (omega arith)

  pub indices-length : length (mesh_in bytes).indices ≡ word_at bytes 20
  unfolding mesh_in
  indices-length = words_from-length bytes (28 + 12 * word_at bytes 12) (word_at bytes 20) (omega arith)

  pub mesh_in-vertices : vertex_count (mesh_in bytes) ≡ word_at bytes 12
  mesh_in-vertices = ap (λ (k : ℕ). k / 3) coordinates-length ∙ third (word_at bytes 12)

  -- the words of the arrays of four that the bytes of a part are read as
  module _ (part : List ℕ) (chunks : List (List ℕ)) (are : chunks ≡ first_chunks 4 (length part / 4) part) where
    part-words : map (from_le_bytes w32) chunks ≡ words part
    part-words =
        ap (map (from_le_bytes w32)) are ∙ chunk-words (length part / 4) part (omega arith)
        ∙ take_all (length part / 4) (words part) (omega (arith, words-length part))

    -- what lies after the header, as the code slices it
    after-header : take (length bytes - 28) (drop 28 bytes) ≡ drop 28 bytes
    after-header = take_all (length bytes - 28) (drop 28 bytes) (omega (arith, length-drop 28 bytes))

    pub coordinates-words : (vertices : ℕ) → vertices ≡ word_at bytes 12 → part ≡ take (12 * vertices) (take (length bytes - 28) (drop 28 bytes))
        → map (from_le_bytes w32) chunks ≡ (mesh_in bytes).coordinates
    unfolding mesh_in
    coordinates-words vertices is front =
        let count : 12 * vertices ≡ 4 * (3 * word_at bytes 12) = omega arith in
        part-words ∙ ap words (front ∙ ap₂ (λ (k : ℕ) (l : List ℕ). take k l) count after-header) ∙ words-take (3 * word_at bytes 12) (drop 28 bytes)

    pub indices-words : (vertices : ℕ) → vertices ≡ word_at bytes 12 → part ≡ drop (12 * vertices) (take (length bytes - 28) (drop 28 bytes))
        → map (from_le_bytes w32) chunks ≡ (mesh_in bytes).indices
    unfolding mesh_in
    indices-words vertices is back =
        let rest = drop (28 + 12 * word_at bytes 12) bytes in
        let few : length (words rest) ≤ word_at bytes 20 = omega (arith, words-length rest, length-drop (28 + 12 * word_at bytes 12) bytes) in
        part-words ∙ ap words (back ∙ ap₂ (λ (k : ℕ) (l : List ℕ). drop (12 * k) l) is after-header ∙ drop-drop (12 * word_at bytes 12) 28 bytes)
        ∙ sym (take_all (word_at bytes 20) (words rest) few)
