-- Words and their bytes, one way and back: what is written is read again, and bytes in fours are the bytes of their words. The records cite these.
use mathlib.Core.Path.{◌≡◌, refl, sym, ap, ap₂, ◌∙◌}
use mathlib.Core.List.{List, [], ◌∷◌, ◌++◌, append_assoc}
use Prim.Native.Nat.{ℕ, zero, suc, ◌+◌, ◌*◌, ◌/◌, ◌%◌, ◌<◌}
use native.Mathlib.Nat.{add-zero, add-suc, suc-add}
use native.Mathlib.Omega.{arith}
use lib.ListN.{length, get_or, take, drop, set, length-take, length-drop}
use lib.Seq.{sets, get_or-take, get_or-drop}
use Rattle.little_endian.specs.Words.{word, word_at, words, word_bytes, bytes_of}

-- every number of a list is below a bound
abbrev pub Below : ℕ → List ℕ → Type 0
Below bound l = (i : ℕ) → i < length l → get_or l i 0 < bound

below-tail : (bound x : ℕ) (l : List ℕ) → Below bound (x ∷ l) → Below bound l
below-tail bound x l h i within = h (suc i) (omega arith)

pub below-cons : (bound x : ℕ) (l : List ℕ) → x < bound → Below bound l → Below bound (x ∷ l)
below-cons bound x l h t zero within = h
below-cons bound x l h t (suc i) within = t i (omega arith)

pub below-append : (bound : ℕ) (xs ys : List ℕ) → Below bound xs → Below bound ys → Below bound (xs ++ ys)
below-append bound [] ys h t = t
below-append bound (x ∷ xs) ys h t = below-cons bound x (xs ++ ys) (h 0 (omega arith)) (below-append bound xs ys (below-tail bound x xs h) t)

pub below-take : (bound n : ℕ) (l : List ℕ) → Below bound l → Below bound (take n l)
below-take bound n l h i within =
    let few = length-take n l in
    rw (get_or-take n l i 0 (omega arith)) (h i (omega arith))

pub below-drop : (bound n : ℕ) (l : List ℕ) → Below bound l → Below bound (drop n l)
below-drop bound n l h i within = let few = length-drop n l in rw (get_or-drop n l i 0) (h (n + i) (omega arith))

-- a read past the end gives 0
pub below-read : (bound : ℕ) (l : List ℕ) → 0 < bound → Below bound l → (i : ℕ) → get_or l i 0 < bound
below-read bound [] some h i = some
below-read bound (x ∷ l) some h zero = h 0 (omega arith)
below-read bound (x ∷ l) some h (suc i) = below-read bound l some (below-tail bound x l h) i

pub bytes_of-length : (ws : List ℕ) → length (bytes_of ws) ≡ 4 * length ws
unfolding word_bytes
bytes_of-length [] = refl
bytes_of-length (w ∷ ws) = let h = bytes_of-length ws in omega arith

pub bytes_of-append : (xs ys : List ℕ) → bytes_of (xs ++ ys) ≡ bytes_of xs ++ bytes_of ys
bytes_of-append [] ys = refl
bytes_of-append (x ∷ xs) ys = ap (λ (l : List ℕ). word_bytes x ++ l) (bytes_of-append xs ys) ∙ sym (append_assoc (word_bytes x) (bytes_of xs) (bytes_of ys))

-- ---- written, then read

digits : (w : ℕ) → w < 4294967296 → word (w % 256) (w / 256 % 256) (w / 65536 % 256) (w / 16777216 % 256) ≡ w
digits w h =
    let second : w / 65536 ≡ w / 256 / 256 = omega arith in
    let third : w / 16777216 ≡ w / 65536 / 256 = omega arith in
    let top : w / 16777216 % 256 ≡ w / 16777216 = omega arith in
    omega (arith, second, third, top)

pub words-bytes_of : (ws : List ℕ) → Below 4294967296 ws → words (bytes_of ws) ≡ ws
unfolding word_bytes
words-bytes_of [] h = refl
words-bytes_of (w ∷ ws) h = ap₂ (λ (a : ℕ) (l : List ℕ). a ∷ l) (digits w (h 0 (omega arith))) (words-bytes_of ws (below-tail 4294967296 w ws h))

-- ---- read, then written

module _ (a b c d : ℕ) (ha : a < 256) (hb : b < 256) (hc : c < 256) (hd : d < 256) where
  pub word_lt : word a b c d < 4294967296
  word_lt = omega arith

  first : word a b c d % 256 ≡ a
  first = omega arith

  second : word a b c d / 256 % 256 ≡ b
  second = omega arith

  third : word a b c d / 65536 % 256 ≡ c
  third = omega arith

  fourth : word a b c d / 16777216 % 256 ≡ d
  fourth = omega arith

  word_bytes-word : word_bytes (word a b c d) ≡ a ∷ b ∷ c ∷ d ∷ []
  unfolding word_bytes
  word_bytes-word = rw (first, second, third, fourth)

pub bytes_of-words : (bytes : List ℕ) → Below 256 bytes → length bytes ≡ 4 * (length bytes / 4) → bytes_of (words bytes) ≡ bytes
bytes_of-words [] h fours = refl
bytes_of-words (a ∷ []) h fours = absurd (omega arith)
bytes_of-words (a ∷ b ∷ []) h fours = absurd (omega arith)
bytes_of-words (a ∷ b ∷ c ∷ []) h fours = absurd (omega arith)
bytes_of-words (a ∷ b ∷ c ∷ d ∷ rest) h fours =
    ap₂ (λ (p q : List ℕ). p ++ q) (word_bytes-word a b c d (h 0 (omega arith)) (h 1 (omega arith)) (h 2 (omega arith)) (h 3 (omega arith)))
    (bytes_of-words rest (λ i within. h (suc (suc (suc (suc i)))) (omega arith)) (omega arith))

pub words-below : (bytes : List ℕ) → Below 256 bytes → Below 4294967296 (words bytes)
words-below [] h i within = absurd (omega arith)
words-below (a ∷ []) h i within = absurd (omega arith)
words-below (a ∷ b ∷ []) h i within = absurd (omega arith)
words-below (a ∷ b ∷ c ∷ []) h i within = absurd (omega arith)
words-below (a ∷ b ∷ c ∷ d ∷ rest) h zero within = word_lt a b c d (h 0 (omega arith)) (h 1 (omega arith)) (h 2 (omega arith)) (h 3 (omega arith))
words-below (a ∷ b ∷ c ∷ d ∷ rest) h (suc i) within = words-below rest (λ j w. h (suc (suc (suc (suc j)))) (omega arith)) i (omega arith)

pub word_at-lt : (bytes : List ℕ) → Below 256 bytes → (place : ℕ) → word_at bytes place < 4294967296
unfolding word_at
word_at-lt bytes h place =
    let byte = below-read 256 bytes (omega arith) h in
    word_lt (get_or bytes place 0) (get_or bytes (place + 1) 0) (get_or bytes (place + 2) 0) (get_or bytes (place + 3) 0)
    (byte place) (byte (place + 1)) (byte (place + 2)) (byte (place + 3))

-- every byte of words is a byte
pub bytes_of-below : (ws : List ℕ) → Below 256 (bytes_of ws)
unfolding word_bytes
bytes_of-below [] i within = absurd (omega arith)
bytes_of-below (w ∷ ws) zero within = omega arith
bytes_of-below (w ∷ ws) (suc zero) within = omega arith
bytes_of-below (w ∷ ws) (suc (suc zero)) within = omega arith
bytes_of-below (w ∷ ws) (suc (suc (suc zero))) within = omega arith
bytes_of-below (w ∷ ws) (suc (suc (suc (suc i)))) within = bytes_of-below ws i (omega arith)

-- ---- one piece after another

pub sets-append : (l : List ℕ) (i : ℕ) (p q : List ℕ) → sets l i (p ++ q) ≡ sets (sets l i p) (i + length p) q
sets-append l i [] q = ap (λ (k : ℕ). sets l k q) (sym (add-zero i))
sets-append l i (a ∷ p) q =
    sets-append (set l i a) (suc i) p q ∙ ap (λ (k : ℕ). sets (sets l i (a ∷ p)) k q) (suc-add i (length p) ∙ sym (add-suc i (length p)))
