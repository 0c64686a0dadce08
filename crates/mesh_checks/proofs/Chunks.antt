-- The words of bytes that are read as arrays of four: those of the words of the list. `check_contents` cites these.
use Rattle.std.proofs.Common.{◌≡◌, ℕ, zero, suc, ◌*◌, ◌≤◌, List, [], ◌∷◌, length, take, map, refl, arith, w32}
use Rattle.std.specs.Int.{from_le_bytes}
use Rattle.std.specs.Simd.{first_chunks}
use Rattle.little_endian.specs.Words.{word, words}

four-suc : (k : ℕ) → 4 * suc k ≡ suc (suc (suc (suc (4 * k))))
four-suc k = omega arith

four-bytes : (a b c d : ℕ) → from_le_bytes w32 (a ∷ b ∷ c ∷ d ∷ []) ≡ word a b c d
four-bytes a b c d = omega arith

pub chunk-words : (k : ℕ) (bytes : List ℕ) → 4 * k ≤ length bytes → map (from_le_bytes w32) (first_chunks 4 k bytes) ≡ take k (words bytes)
chunk-words zero bytes h = refl
chunk-words (suc k) [] h = absurd (omega arith)
chunk-words (suc k) (a ∷ []) h = absurd (omega arith)
chunk-words (suc k) (a ∷ b ∷ []) h = absurd (omega arith)
chunk-words (suc k) (a ∷ b ∷ c ∷ []) h = absurd (omega arith)
chunk-words (suc k) (a ∷ b ∷ c ∷ d ∷ rest) h = rw (four-bytes a b c d, chunk-words k rest (omega arith))

pub words-take : (k : ℕ) (bytes : List ℕ) → words (take (4 * k) bytes) ≡ take k (words bytes)
words-take zero bytes = refl
words-take (suc k) [] = rw (four-suc k)
words-take (suc k) (a ∷ []) = rw (four-suc k)
words-take (suc k) (a ∷ b ∷ []) = rw (four-suc k)
words-take (suc k) (a ∷ b ∷ c ∷ []) = rw (four-suc k)
words-take (suc k) (a ∷ b ∷ c ∷ d ∷ rest) = rw (four-suc k, words-take k rest)
