-- What the reader leaves, by the room of the two buffers. `copy_mesh` and the round trips cite these.
use mathlib.Core.Path.{◌≡◌, sym, ap, ap₂, ◌∙◌}
use mathlib.Core.Logic.{◌⊎◌, inl, inr}
use mathlib.Core.List.{List, map}
use Prim.Native.Nat.{ℕ, ◌+◌, ◌*◌, ◌≤◌, ◌<◌}
use native.Mathlib.Omega.{arith}
use lib.ListN.{length}
use lib.Ieee.{Float, binary32, of_bits}
use borrow.Author.Tests.{lt-ltb, le-ltb}
use Rattle.little_endian.specs.Words.{word_at, words_from, over}
use Rattle.mesh_read.specs.declared.ReadAnswer.{ReadAnswer}
use Rattle.mesh_record.specs.Mesh.{Mesh}
use Rattle.mesh_record.specs.Refusals.{none}
use Rattle.mesh_checks.specs.Reading.{mesh_in, refusal_in}
use Rattle.mesh_read.specs.Reading.{left, short, done, copied, reading}
use Rattle.mesh_checks.proofs.Contents.{coordinates-length, indices-length, mesh_in-vertices}

module _ (m : Mesh) (coordinates : List Float) (indices : List ℕ) where
  pub copied-few : (length coordinates < length m.coordinates) ⊎ ((length m.coordinates ≤ length coordinates) × (length indices < length m.indices))
      → left (short m) coordinates indices ≡ copied m coordinates indices
  unfolding copied
  copied-few (inl h) = rw (lt-ltb (length coordinates) (length m.coordinates) h)
  copied-few (inr h) = rw (le-ltb (length coordinates) (length m.coordinates) h.0, lt-ltb (length indices) (length m.indices) h.1)

  pub copied-done : length m.coordinates ≤ length coordinates → length m.indices ≤ length indices
      → left (done m) (over (map (of_bits binary32) m.coordinates) coordinates) (over m.indices indices) ≡ copied m coordinates indices
  unfolding copied
  copied-done r h = rw (le-ltb (length coordinates) (length m.coordinates) r, le-ltb (length indices) (length m.indices) h)

-- the same with the counts as the code reads them
module _ (bytes : List ℕ) (coordinates : List Float) (indices : List ℕ) (whole : length bytes ≡ 28 + 12 * word_at bytes 12 + 4 * word_at bytes 20)
    (vertices count : ℕ) (hv : vertices ≡ word_at bytes 12) (hk : count ≡ word_at bytes 20) where
  abbrev short_by : ℕ → ℕ → ReadAnswer
  short_by v k = record { cause = 10; size = 0; numbering = 0; place = 0; vertices = v; indices = k }

  short-is : short_by vertices count ≡ short (mesh_in bytes)
  short-is = ap₂ short_by (hv ∙ sym (mesh_in-vertices bytes whole)) (hk ∙ sym (indices-length bytes whole))

  pub little-room : (answer : ReadAnswer) → answer ≡ short_by vertices count
      → (length coordinates < 3 * vertices) ⊎ ((3 * vertices ≤ length coordinates) × (length indices < count)) → left answer coordinates indices ≡ copied (mesh_in bytes) coordinates indices
  little-room answer is h = ap (λ (a : ReadAnswer). left a coordinates indices) (is ∙ short-is) ∙ copied-few (mesh_in bytes) coordinates indices (few h)
    where
      few : (length coordinates < 3 * vertices) ⊎ ((3 * vertices ≤ length coordinates) × (length indices < count))
          → (length coordinates < length (mesh_in bytes).coordinates)
          ⊎ ((length (mesh_in bytes).coordinates ≤ length coordinates) × (length indices < length (mesh_in bytes).indices))
      few (inl h) = inl (omega (arith, h, hv, coordinates-length bytes whole))
      few (inr h) = inr (omega (arith, h.0, hv, coordinates-length bytes whole), omega (arith, h.1, hk, indices-length bytes whole))

  abbrev done_by : ℕ → ℕ → ℕ → ℕ → ReadAnswer
  done_by s w v k = record { cause = 0; size = s; numbering = w; place = 0; vertices = v; indices = k }

  pub enough-room : (size numbering : ℕ) (floats : List Float) (words : List ℕ) → size ≡ word_at bytes 4 → numbering ≡ word_at bytes 8
      → floats ≡ over (map (of_bits binary32) (words_from bytes 28 (3 * vertices))) coordinates → words ≡ over (words_from bytes (28 + 12 * vertices) count) indices
      → 3 * vertices ≤ length coordinates → count ≤ length indices
      → left (done_by size numbering vertices count) floats words ≡ copied (mesh_in bytes) coordinates indices
  unfolding mesh_in
  enough-room size numbering floats words hs hw hf hi r q =
      let answer : done_by size numbering vertices count ≡ done (mesh_in bytes) =
      ap₂ (λ (s w : ℕ). done_by s w vertices count) hs hw
      ∙ ap₂ (done_by (word_at bytes 4) (word_at bytes 8)) (hv ∙ sym (mesh_in-vertices bytes whole)) (hk ∙ sym (indices-length bytes whole)) in
      let front : floats ≡ over (map (of_bits binary32) (mesh_in bytes).coordinates) coordinates =
      hf ∙ ap (λ (v : ℕ). over (map (of_bits binary32) (words_from bytes 28 (3 * v))) coordinates) hv in
      let list : words ≡ over (mesh_in bytes).indices indices = hi ∙ ap₂ (λ (v k : ℕ). over (words_from bytes (28 + 12 * v) k) indices) hv hk in
      ap₂ (λ (f : List Float) (l : List ℕ). left (done_by size numbering vertices count) f l) front list
      ∙ ap (λ (a : ReadAnswer). left a (over (map (of_bits binary32) (mesh_in bytes).coordinates) coordinates) (over (mesh_in bytes).indices indices)) answer
      ∙ copied-done (mesh_in bytes) coordinates indices (omega (arith, r, hv, coordinates-length bytes whole)) (omega (arith, q, hk, indices-length bytes whole))

module _ (bytes : List ℕ) (coordinates : List Float) (indices : List ℕ) where
  pub reading-passed : none ≡ refusal_in bytes → copied (mesh_in bytes) coordinates indices ≡ reading bytes coordinates indices
  unfolding reading
  reading-passed is = rw (← is)
