-- A record put in three parts, one after another, is the record: its header, its vertices, its indices. `put` and the round trips cite these.
use mathlib.Core.Path.{◌≡◌, sym, ap, ap₂, ◌∙◌}
use mathlib.Core.List.{List, [], ◌∷◌, ◌++◌, map}
use Prim.Native.Nat.{ℕ, ◌+◌, ◌*◌, ◌/◌, ◌≤◌, ◌<◌}
use native.Mathlib.Nat.{zero-add}
use native.Mathlib.Omega.{arith}
use lib.ListN.{length, drop, length-append}
use lib.Seq.{sets, sets-eq}
use lib.Ieee.{Float, binary32, to_bits}
use borrow.Author.Tests.{lt-ltb, le-ltb}
use Rattle.little_endian.specs.Words.{bytes_of, over}
use Rattle.little_endian.proofs.Bytes.{bytes_of-length, bytes_of-append, sets-append}
use Rattle.mesh_record.specs.Mesh.{Mesh, header, record_bytes}
use Rattle.mesh_write.specs.declared.WriteAnswer.{WriteAnswer}
use Rattle.mesh_write.specs.Writing.{mesh_of, left, short, done, put}
use Rattle.mesh_write.proofs.Meshes.{bits-length}

sets_over : (new old : List ℕ) → length new ≤ length old → sets old 0 new ≡ over new old
sets_over new old h = sets-eq new old 0 (omega arith) ∙ ap (λ (k : ℕ). new ++ drop k old) (zero-add (length new))

module _ (m : Mesh) where
  pub record-length : length (record_bytes m) ≡ 28 + 4 * length m.coordinates + 4 * length m.indices
  record-length =
      let words : length (header m ++ m.coordinates ++ m.indices) ≡ 7 + (length m.coordinates + length m.indices) =
      length-append (header m) (m.coordinates ++ m.indices) ∙ ap (λ (k : ℕ). 7 + k) (length-append m.coordinates m.indices) in
      omega (arith, bytes_of-length (header m ++ m.coordinates ++ m.indices), words)

  parts : record_bytes m ≡ bytes_of (header m) ++ (bytes_of m.coordinates ++ bytes_of m.indices)
  parts = bytes_of-append (header m) (m.coordinates ++ m.indices) ∙ ap (λ (l : List ℕ). bytes_of (header m) ++ l) (bytes_of-append m.coordinates m.indices)

  put-parts : (out : List ℕ)
      → sets out 0 (record_bytes m) ≡ sets (sets (sets out 0 (bytes_of (header m))) 28 (bytes_of m.coordinates)) (28 + 4 * length m.coordinates) (bytes_of m.indices)
  put-parts out =
      let first = sets out 0 (bytes_of (header m)) in
      let second = sets first 28 (bytes_of m.coordinates) in
      let start : 0 + length (bytes_of (header m)) ≡ 28 = zero-add (length (bytes_of (header m))) ∙ bytes_of-length (header m) in
      ap (sets out 0) parts
      ∙ sets-append out 0 (bytes_of (header m)) (bytes_of m.coordinates ++ bytes_of m.indices)
      ∙ ap (λ (k : ℕ). sets first k (bytes_of m.coordinates ++ bytes_of m.indices)) start
      ∙ sets-append first 28 (bytes_of m.coordinates) (bytes_of m.indices)
      ∙ ap (λ (k : ℕ). sets second (28 + k) (bytes_of m.indices)) (bytes_of-length m.coordinates)

-- ---- with the counts as the code has them

module _ (size numbering : ℕ) (coordinates : List Float) (indices out : List ℕ) where
  abbrev m : Mesh
  m = mesh_of size numbering coordinates indices

  length-is : length (record_bytes m) ≡ 28 + 4 * length coordinates + 4 * length indices
  length-is = record-length m ∙ ap (λ (k : ℕ). 28 + 4 * k + 4 * length indices) (bits-length coordinates)

  pub put-short : (answer : WriteAnswer) → answer ≡ short (28 + 4 * length coordinates + 4 * length indices)
      → length out < 28 + 4 * length coordinates + 4 * length indices → left answer out ≡ put (mesh_of size numbering coordinates indices) out
  unfolding put
  put-short answer is h =
      ap (λ (a : WriteAnswer). left a out) (is ∙ ap short (sym length-is)) ∙ rw (lt-ltb (length out) (length (record_bytes m)) (omega (arith, h, length-is)))

  header_by : ℕ → List ℕ
  header_by vertices = 1 ∷ size ∷ numbering ∷ vertices ∷ 28 ∷ length indices ∷ (28 + 12 * vertices) ∷ []

  pub put-done : (first second third : List ℕ) (answer : WriteAnswer) → 28 + 4 * length coordinates + 4 * length indices ≤ length out
      → first ≡ sets out 0 (bytes_of (1 ∷ size ∷ numbering ∷ length coordinates / 3 ∷ 28 ∷ length indices ∷ (28 + 12 * (length coordinates / 3)) ∷ []))
      → second ≡ sets first 28 (bytes_of (map (to_bits binary32) coordinates))
      → third ≡ sets second (28 + 4 * length coordinates) (bytes_of indices)
      → answer ≡ done (28 + 4 * length coordinates + 4 * length indices)
      → left answer third ≡ put (mesh_of size numbering coordinates indices) out
  unfolding put header_by
  put-done first second third answer room one two three is =
      let opened : first ≡ sets out 0 (bytes_of (header m)) =
      one ∙ ap (λ (k : ℕ). sets out 0 (bytes_of (header_by (k / 3)))) (sym (bits-length coordinates)) in
      let filled : third ≡ over (record_bytes m) out =
      three ∙ ap (λ (k : ℕ). sets second (28 + 4 * k) (bytes_of indices)) (sym (bits-length coordinates))
      ∙ ap (λ (l : List ℕ). sets l (28 + 4 * length m.coordinates) (bytes_of indices)) (two ∙ ap (λ (l : List ℕ). sets l 28 (bytes_of m.coordinates)) opened)
      ∙ sym (put-parts m out) ∙ sets_over (record_bytes m) out (omega (arith, room, length-is)) in
      ap₂ left (is ∙ ap done (sym length-is)) filled ∙ rw (le-ltb (length out) (length (record_bytes m)) (omega (arith, room, length-is)))
