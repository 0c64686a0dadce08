-- What a mesh is, which meshes are good, and the bytes of a mesh's record: document 02, CR 1. A record is a header of words, then the words of
-- the vertices and of the indices; this header is version 1's, and what comes after a header is said by the place where it starts. Held to a record
-- written out by `proofs/Cases.antt`, and to a twin in Rust by the oracle.
use Rattle.std.specs.Prelude.{◌≡◌, Bool, true, List, [], ◌∷◌, ◌++◌, ℕ, ◌+◌, ◌*◌, ◌/◌, ◌%◌, ◌≤◌, ◌<◌, ltb, length, get_or}
use Rattle.little_endian.specs.Words.{bytes_of}

-- coordinates as the bits of their f32, three to a vertex; indices three to a triangle
pub record Mesh : Type 0 where
  pub size : ℕ
  pub numbering : ℕ
  pub coordinates : List ℕ
  pub indices : List ℕ

abbrev pub vertex_count : Mesh → ℕ
vertex_count m = length m.coordinates / 3

-- the bits without the sign are below those of an infinity, 7F800000
abbrev pub finite : ℕ → Bool
finite bits = ltb (bits % 2147483648) 2139095040

abbrev pub below : ℕ → ℕ → Bool
below count index = ltb index count

-- the words of version 1's header, seven of four bytes
abbrev pub header : Mesh → List ℕ
header m =
    1 ∷ m.size ∷ m.numbering ∷ vertex_count m ∷ 28 ∷ length m.indices ∷ (28 + 12 * vertex_count m) ∷ []

abbrev pub record_bytes : Mesh → List ℕ
record_bytes m = bytes_of (header m ++ m.coordinates ++ m.indices)

-- A mesh that a record can hold, of a size and a numbering that the library takes. Every word is below 2^32.
pub record Good (m : Mesh) : Type 0 where
  pub least : 2 ≤ m.size
  pub most : m.size ≤ 128
  pub numbering-word : m.numbering ≤ 1
  pub coordinates-whole : length m.coordinates ≡ 3 * vertex_count m
  pub coordinates-words : (i : ℕ) → i < length m.coordinates → get_or m.coordinates i 0 < 4294967296
  pub coordinates-finite : (i : ℕ) → i < length m.coordinates → finite (get_or m.coordinates i 0) ≡ true
  pub indices-whole : length m.indices % 3 ≡ 0
  pub indices-below : (i : ℕ) → i < length m.indices → get_or m.indices i 0 < vertex_count m
  pub indices-word : length m.indices < 4294967296
  pub offset_word : 28 + 12 * vertex_count m < 4294967296
