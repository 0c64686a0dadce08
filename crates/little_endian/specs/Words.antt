-- Little-endian u32 in a list of bytes, read and written.
use Rattle.std.specs.Prelude.{List, [], ◌∷◌, ◌++◌, ℕ, ◌+◌, ◌*◌, ◌/◌, ◌%◌, length, get_or, take, drop}

-- the lowest byte comes first
abbrev pub word : ℕ → ℕ → ℕ → ℕ → ℕ
word a b c d = a + 256 * (b + 256 * (c + 256 * d))

-- the word that begins at a byte place
unfoldable pub word_at : List ℕ → ℕ → ℕ
word_at bytes place = word (get_or bytes place 0) (get_or bytes (place + 1) 0) (get_or bytes (place + 2) 0) (get_or bytes (place + 3) 0)

-- one after another, as many as are whole
abbrev pub words : List ℕ → List ℕ
words [] = []
words (a ∷ []) = []
words (a ∷ b ∷ []) = []
words (a ∷ b ∷ c ∷ []) = []
words (a ∷ b ∷ c ∷ d ∷ rest) = word a b c d ∷ words rest

-- so many words from a byte place on
abbrev pub words_from : List ℕ → ℕ → ℕ → List ℕ
words_from bytes place count = take count (words (drop place bytes))

-- the four bytes of a word below 2 ^ 32
unfoldable pub word_bytes : ℕ → List ℕ
word_bytes w = w % 256 ∷ w / 256 % 256 ∷ w / 65536 % 256 ∷ w / 16777216 % 256 ∷ []

-- the bytes of words, one after another
abbrev pub bytes_of : List ℕ → List ℕ
bytes_of [] = []
bytes_of (w ∷ ws) = word_bytes w ++ bytes_of ws

-- written from the start, the rest unchanged
abbrev pub over : {A : Type 0} → List A → List A → List A
over new old = new ++ drop (length new) old
