-- The words of a list of bytes, by number: as many as the length over 4, and word i is the one at byte place 4 * i.
use mathlib.Core.Path.{◌≡◌, refl, ap, ◌∙◌}
use mathlib.Core.List.{List, [], ◌∷◌}
use Prim.Native.Nat.{ℕ, zero, suc, ◌+◌, ◌*◌, ◌/◌, ◌≤◌, ◌<◌}
use native.Mathlib.Nat.{add_assoc}
use native.Mathlib.Omega.{arith}
use lib.ListN.{length, get_or, drop}
use lib.Seq.{get_or-drop}
use Rattle.little_endian.specs.Words.{word_at, words}

pub words-length : (bytes : List ℕ) → length (words bytes) ≡ length bytes / 4
words-length bytes = let h = between bytes in omega arith
  where
    between : (bytes : List ℕ) → (4 * length (words bytes) ≤ length bytes) × (length bytes < 4 * length (words bytes) + 4)
    between [] = omega arith
    between (a ∷ []) = omega arith
    between (a ∷ b ∷ []) = omega arith
    between (a ∷ b ∷ c ∷ []) = omega arith
    between (a ∷ b ∷ c ∷ d ∷ rest) = let h = between rest in omega arith

word_at-drop : (bytes : List ℕ) (start place : ℕ) → word_at (drop start bytes) place ≡ word_at bytes (start + place)
unfolding word_at
word_at-drop bytes start place = simp (get_or-drop, add_assoc)

pub words-at : (bytes : List ℕ) (i : ℕ) → i < length (words bytes) → get_or (words bytes) i 0 ≡ word_at bytes (4 * i)
unfolding word_at
words-at [] i h = absurd (omega arith)
words-at (a ∷ []) i h = absurd (omega arith)
words-at (a ∷ b ∷ []) i h = absurd (omega arith)
words-at (a ∷ b ∷ c ∷ []) i h = absurd (omega arith)
words-at (a ∷ b ∷ c ∷ d ∷ rest) zero h = refl
words-at (a ∷ b ∷ c ∷ d ∷ rest) (suc i) h =
    let next : 4 + 4 * i ≡ 4 * suc i = omega arith in
    words-at rest i (omega arith) ∙ word_at-drop (a ∷ b ∷ c ∷ d ∷ rest) 4 (4 * i) ∙ ap (word_at (a ∷ b ∷ c ∷ d ∷ rest)) next

-- the words after the first `start` bytes
pub words-from : (bytes : List ℕ) (start i : ℕ) → i < length (words (drop start bytes)) → get_or (words (drop start bytes)) i 0 ≡ word_at bytes (start + 4 * i)
words-from bytes start i h = words-at (drop start bytes) i h ∙ word_at-drop bytes start (4 * i)

four-suc : (k : ℕ) → 4 * suc k ≡ suc (suc (suc (suc (4 * k))))
four-suc k = omega arith

pub words-drop : (k : ℕ) (bytes : List ℕ) → words (drop (4 * k) bytes) ≡ drop k (words bytes)
words-drop zero bytes = refl
words-drop (suc k) [] = ap (λ (n : ℕ). words (drop n [])) (four-suc k)
words-drop (suc k) (a ∷ []) = ap (λ (n : ℕ). words (drop n (a ∷ []))) (four-suc k)
words-drop (suc k) (a ∷ b ∷ []) = ap (λ (n : ℕ). words (drop n (a ∷ b ∷ []))) (four-suc k)
words-drop (suc k) (a ∷ b ∷ c ∷ []) = ap (λ (n : ℕ). words (drop n (a ∷ b ∷ c ∷ []))) (four-suc k)
words-drop (suc k) (a ∷ b ∷ c ∷ d ∷ rest) = ap (λ (n : ℕ). words (drop n (a ∷ b ∷ c ∷ d ∷ rest))) (four-suc k) ∙ words-drop k rest
