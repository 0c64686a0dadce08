-- The record of a good mesh and the reader's answer to it: reading what was written gives the mesh back, what is accepted and written again gives the
-- same bytes, and the records of good meshes are exactly the bytes that are accepted. The safety file cites these.
use mathlib.Core.Path.{◌≡◌, refl, sym, ap, ap₂, ◌∙◌, subst}
use mathlib.Core.List.{List, [], ◌∷◌, ◌++◌, append_assoc}
use Prim.Native.Nat.{ℕ, ◌+◌, ◌*◌, ◌/◌, ◌%◌, ◌≤◌, ◌<◌}
use native.Mathlib.Omega.{arith}
use lib.ListN.{length, get_or, take, drop, length-append, length-drop, take-append-drop}
use lib.Seq.{take-length, take-append_seam, take_all, drop_at, drop-drop}
use Rattle.little_endian.specs.Words.{word_at, words, words_from, bytes_of}
use Rattle.little_endian.proofs.Words.{words-length, words-at, words-drop}
use Rattle.little_endian.proofs.Bytes.{Below, below-cons, below-append, below-take, below-drop, words-bytes_of, bytes_of-words, words-below, word_at-lt}
use Rattle.mesh_record.specs.Mesh.{Mesh, vertex_count, header, record_bytes, Good}
use Rattle.mesh_record.specs.Refusals.{none, contents}
use Rattle.mesh_checks.specs.Reading.{mesh_in, refusal_in}
use Rattle.mesh_record.proofs.Passed.{Sound, contents-passed}
use Rattle.mesh_checks.proofs.Contents.{coordinates-length, indices-length, mesh_in-vertices}
use Rattle.mesh_checks.proofs.Passed.{Whole, refusal_in-known, refusal_in-passed}
use Rattle.mesh_write.proofs.Puts.{record-length}

-- ---- seven words

module _ (bound a b c d e f g : ℕ) where
  seven-below : a < bound → b < bound → c < bound → d < bound → e < bound → f < bound → g < bound → Below bound (a ∷ b ∷ c ∷ d ∷ e ∷ f ∷ g ∷ [])
  seven-below ha hb hc hd he hf hg =
      let last = below-cons bound g [] hg (λ i within. absurd (omega arith)) in
      let three = below-cons bound e (f ∷ g ∷ []) he (below-cons bound f (g ∷ []) hf last) in
      below-cons bound a (b ∷ c ∷ d ∷ e ∷ f ∷ g ∷ []) ha
      (below-cons bound b (c ∷ d ∷ e ∷ f ∷ g ∷ []) hb (below-cons bound c (d ∷ e ∷ f ∷ g ∷ []) hc (below-cons bound d (e ∷ f ∷ g ∷ []) hd three)))

-- ---- the mesh of a record

module _ (m : Mesh) (good : Good m) where
  abbrev bytes : List ℕ
  bytes = record_bytes m

  indices-words : Below 4294967296 m.indices
  indices-words i within = let small = good.indices-below i within in omega (arith, small, good.offset_word)

  contents-words : Below 4294967296 (m.coordinates ++ m.indices)
  contents-words = below-append 4294967296 m.coordinates m.indices good.coordinates-words indices-words

  header-words : Below 4294967296 (header m)
  header-words =
      seven-below 4294967296 1 m.size m.numbering (vertex_count m) 28 (length m.indices) (28 + 12 * vertex_count m) (omega arith) (omega (arith, good.most))
      (omega (arith, good.numbering-word)) (omega (arith, good.offset_word)) (omega arith) good.indices-word good.offset_word

  all_words : words bytes ≡ header m ++ m.coordinates ++ m.indices
  all_words = words-bytes_of (header m ++ m.coordinates ++ m.indices) (below-append 4294967296 (header m) (m.coordinates ++ m.indices) header-words contents-words)

  pub record-whole : length bytes ≡ 28 + 12 * vertex_count m + 4 * length m.indices
  record-whole = omega (arith, record-length m, good.coordinates-whole)

  -- the words of the header, by number
  header-word : (i place : ℕ) → i < 7 → 4 * i ≡ place → word_at bytes place ≡ get_or (header m ++ m.coordinates ++ m.indices) i 0
  header-word i place h e =
      let within : i < length (words bytes) = omega (arith, h, words-length bytes, record-whole) in
      ap (word_at bytes) (sym e) ∙ sym (words-at bytes i within) ∙ ap (λ (l : List ℕ). get_or l i 0) all_words

  version-is : word_at bytes 0 ≡ 1
  version-is = header-word 0 0 (omega arith) refl

  size_is : word_at bytes 4 ≡ m.size
  size_is = header-word 1 4 (omega arith) refl

  numbering-is : word_at bytes 8 ≡ m.numbering
  numbering-is = header-word 2 8 (omega arith) refl

  vertices-is : word_at bytes 12 ≡ vertex_count m
  vertices-is = header-word 3 12 (omega arith) refl

  vertices-at-is : word_at bytes 16 ≡ 28
  vertices-at-is = header-word 4 16 (omega arith) refl

  indices-is : word_at bytes 20 ≡ length m.indices
  indices-is = header-word 5 20 (omega arith) refl

  indices-at-is : word_at bytes 24 ≡ 28 + 12 * vertex_count m
  indices-at-is = header-word 6 24 (omega arith) refl

  coordinates-are : words_from bytes 28 (3 * word_at bytes 12) ≡ m.coordinates
  coordinates-are =
      let body : words (drop 28 bytes) ≡ m.coordinates ++ m.indices = words-drop 7 bytes ∙ ap (drop 7) all_words in
      let count : 3 * word_at bytes 12 ≡ length m.coordinates = omega (arith, vertices-is, good.coordinates-whole) in
      ap₂ (λ (k : ℕ) (l : List ℕ). take k l) count body ∙ take-append_seam m.coordinates m.indices

  indices-are : words_from bytes (28 + 12 * word_at bytes 12) (word_at bytes 20) ≡ m.indices
  indices-are =
      let place : 28 + 12 * word_at bytes 12 ≡ 4 * (7 + length m.coordinates) = omega (arith, vertices-is, good.coordinates-whole) in
      let front : length (header m ++ m.coordinates) ≡ 7 + length m.coordinates = length-append (header m) m.coordinates in
      let tail : words (drop (28 + 12 * word_at bytes 12) bytes) ≡ m.indices =
      ap (λ (k : ℕ). words (drop k bytes)) place ∙ words-drop (7 + length m.coordinates) bytes
      ∙ ap (drop (7 + length m.coordinates)) (all_words ∙ sym (append_assoc (header m) m.coordinates m.indices))
      ∙ drop_at (header m ++ m.coordinates) m.indices (7 + length m.coordinates) front in
      ap₂ (λ (k : ℕ) (l : List ℕ). take k l) indices-is tail ∙ take-length m.indices

  -- Reading what was written gives the mesh back.
  pub record-holds : mesh_in (record_bytes m) ≡ m
  unfolding mesh_in
  record-holds = rw (size_is, numbering-is, coordinates-are, indices-are)

  pub contents-sound : Sound m
  contents-sound = record { coordinates-finite = good.coordinates-finite; indices-below = good.indices-below }

  pub contents-none : none ≡ contents 28 m
  contents-none = sym (contents-passed 28 m contents-sound)

  -- The record of a good mesh is accepted.
  pub record-accepted : refusal_in (record_bytes m) ≡ none
  record-accepted =
      refusal_in-passed bytes (record {
        long = omega (arith, record-whole);
        opened = record {
          first-version = version-is;
          least = omega (arith, size_is, good.least);
          most = omega (arith, size_is, good.most);
          numbering-word = omega (arith, numbering-is, good.numbering-word);
        };
        fields = record {
          vertices-at = vertices-at-is;
          threes = ap (λ (k : ℕ). k % 3) indices-is ∙ good.indices-whole;
          indices-at = indices-at-is ∙ ap (λ (k : ℕ). 28 + 12 * k) (sym vertices-is);
          whole = omega (arith, record-whole, vertices-is, indices-is);
        };
        sound = subst Sound (sym record-holds) contents-sound;
      })

-- ---- a record that is accepted

-- a list of at least seven numbers, each told, and what follows
seven : (l : List ℕ) (a b c d e f g : ℕ) → 7 ≤ length l → get_or l 0 0 ≡ a → get_or l 1 0 ≡ b → get_or l 2 0 ≡ c → get_or l 3 0 ≡ d → get_or l 4 0 ≡ e
    → get_or l 5 0 ≡ f → get_or l 6 0 ≡ g → a ∷ b ∷ c ∷ d ∷ e ∷ f ∷ g ∷ drop 7 l ≡ l
seven [] a b c d e f g h ea eb ec ed ee ef eg = absurd (omega arith)
seven (p ∷ []) a b c d e f g h ea eb ec ed ee ef eg = absurd (omega arith)
seven (p ∷ q ∷ []) a b c d e f g h ea eb ec ed ee ef eg = absurd (omega arith)
seven (p ∷ q ∷ r ∷ []) a b c d e f g h ea eb ec ed ee ef eg = absurd (omega arith)
seven (p ∷ q ∷ r ∷ s ∷ []) a b c d e f g h ea eb ec ed ee ef eg = absurd (omega arith)
seven (p ∷ q ∷ r ∷ s ∷ t ∷ []) a b c d e f g h ea eb ec ed ee ef eg = absurd (omega arith)
seven (p ∷ q ∷ r ∷ s ∷ t ∷ u ∷ []) a b c d e f g h ea eb ec ed ee ef eg = absurd (omega arith)
seven (p ∷ q ∷ r ∷ s ∷ t ∷ u ∷ v ∷ l) a b c d e f g h ea eb ec ed ee ef eg = cc

module _ (bytes : List ℕ) (small : Below 256 bytes) (accepted : refusal_in bytes ≡ none) where
  known : Whole bytes
  known = refusal_in-known bytes accepted

  fours : length bytes ≡ 4 * (length bytes / 4)
  fours = let whole = known.fields.whole in omega arith

  count : length (words bytes) ≡ 7 + 3 * word_at bytes 12 + word_at bytes 20
  count = let whole = known.fields.whole in omega (arith, words-length bytes)

  word : (i place : ℕ) → i < 7 → 4 * i ≡ place → get_or (words bytes) i 0 ≡ word_at bytes place
  word i place h e = words-at bytes i (omega (arith, h, count)) ∙ ap (word_at bytes) e

  body : drop 7 (words bytes) ≡ (mesh_in bytes).coordinates ++ (mesh_in bytes).indices
  unfolding mesh_in
  body =
      let vertices = word_at bytes 12 in
      let place : 28 + 12 * vertices ≡ 4 * (7 + 3 * vertices) = omega arith in
      let rest : drop (3 * vertices) (drop 7 (words bytes)) ≡ words (drop (28 + 12 * vertices) bytes) =
      drop-drop (3 * vertices) 7 (words bytes) ∙ sym (words-drop (7 + 3 * vertices) bytes) ∙ ap (λ (k : ℕ). words (drop k bytes)) (sym place) in
      let short : length (words (drop (28 + 12 * vertices) bytes)) ≤ word_at bytes 20 =
      omega (arith, ap length rest, length-drop (3 * vertices) (drop 7 (words bytes)), length-drop 7 (words bytes), count) in
      sym (take-append-drop (3 * vertices) (drop 7 (words bytes)))
      ∙ ap₂ (λ (p q : List ℕ). p ++ q) (ap (take (3 * vertices)) (sym (words-drop 7 bytes)))
      (rest ∙ sym (take_all (word_at bytes 20) (words (drop (28 + 12 * vertices) bytes)) short))

  header_is : header (mesh_in bytes) ++ drop 7 (words bytes) ≡ words bytes
  unfolding mesh_in
  header_is =
      let whole = known.fields.whole in
      let vertices : word_at bytes 12 ≡ vertex_count (mesh_in bytes) = sym (mesh_in-vertices bytes whole) in
      let indices : word_at bytes 20 ≡ length (mesh_in bytes).indices = sym (indices-length bytes whole) in
      seven (words bytes) 1 (word_at bytes 4) (word_at bytes 8) (vertex_count (mesh_in bytes)) 28 (length (mesh_in bytes).indices) (28 + 12 * vertex_count (mesh_in bytes))
      (omega (arith, count)) (word 0 0 (omega arith) refl ∙ known.opened.first-version) (word 1 4 (omega arith) refl) (word 2 8 (omega arith) refl)
      (word 3 12 (omega arith) refl ∙ vertices) (word 4 16 (omega arith) refl ∙ known.fields.vertices-at) (word 5 20 (omega arith) refl ∙ indices)
      (word 6 24 (omega arith) refl ∙ known.fields.indices-at ∙ ap (λ (k : ℕ). 28 + 12 * k) vertices)

  -- An accepted record written again gives the same bytes.
  pub accepted-again : record_bytes (mesh_in bytes) ≡ bytes
  accepted-again =
      ap (λ (l : List ℕ). bytes_of (header (mesh_in bytes) ++ l)) (sym body) ∙ ap bytes_of header_is ∙ bytes_of-words bytes small fours

  coordinates-small : Below 4294967296 (mesh_in bytes).coordinates
  unfolding mesh_in
  coordinates-small =
      below-take 4294967296 (3 * word_at bytes 12) (words (drop 28 bytes))
      (subst (Below 4294967296) (sym (words-drop 7 bytes)) (below-drop 4294967296 7 (words bytes) (words-below bytes small)))

  -- What is accepted is a good mesh.
  pub accepted-good : Good (mesh_in bytes)
  unfolding mesh_in
  accepted-good =
      let whole = known.fields.whole in
      let vertices = mesh_in-vertices bytes whole in
      let indices = indices-length bytes whole in
      record {
        least = known.opened.least;
        most = known.opened.most;
        numbering-word = known.opened.numbering-word;
        coordinates-whole = omega (arith, coordinates-length bytes whole, vertices);
        coordinates-words = coordinates-small;
        coordinates-finite = known.sound.coordinates-finite;
        indices-whole = ap (λ (k : ℕ). k % 3) indices ∙ known.fields.threes;
        indices-below = known.sound.indices-below;
        indices-word = omega (arith, indices, word_at-lt bytes small 20);
        offset_word = omega (arith, vertices, known.fields.indices-at, word_at-lt bytes small 24);
      }

-- ---- both ways

-- bytes that are the record of a good mesh
pub record RecordOfGood (bytes : List ℕ) : Type 0 where
  pub mesh : Mesh
  pub good : Good mesh
  pub is : bytes ≡ record_bytes mesh

-- The bytes that are accepted are exactly the records of good meshes,
pub accepted-exactly : (bytes : List ℕ) → Below 256 bytes → (refusal_in bytes ≡ none → RecordOfGood bytes) × (RecordOfGood bytes → refusal_in bytes ≡ none)
accepted-exactly bytes small = (
  λ accepted. record { mesh = mesh_in bytes; good = accepted-good bytes small accepted; is = sym (accepted-again bytes small accepted) },
  λ held. ap refusal_in held.is ∙ record-accepted held.mesh held.good,
)

-- and two records of one mesh are the same bytes.
pub records-equal : (first second : List ℕ) → Below 256 first → Below 256 second → refusal_in first ≡ none → refusal_in second ≡ none
    → mesh_in first ≡ mesh_in second → first ≡ second
records-equal first second first_small second-small first-accepted second-accepted same =
    sym (accepted-again first first_small first-accepted) ∙ ap record_bytes same ∙ accepted-again second second-small second-accepted
