-- The sign words of a layer of samples: 32 bits to a word, four words to a row. A private model, which the contracts of this crate and of the walk
-- cite; nobody need believe it.
use Rattle.std.specs.Prelude.{Bool, not, ◌&&◌, ◌||◌, ◌≡◌, List, ℕ, zero, suc, ◌+◌, ◌*◌, ◌^◌, ◌≤◌, ◌<◌, eqb, ltb, length, get_or, Float}
use Rattle.std.specs.Float.{nan}
use Rattle.marching_cubes_impl.specs.Sample.{inside}
use Rattle.walk.specs.Walk.{bit}
use Rattle.lent_mesh.specs.Grid.{inside_of}

-- bit i of the word is set where f i is true, for i below k; the others are 0
unfoldable pub word_of : (ℕ → Bool) → ℕ → ℕ
word_of f zero = 0
word_of f (suc k) = word_of f k + bit (f k) * 2 ^ k

-- every bit is set but for bit i, which is as told
abbrev pub kept_bit : Bool → ℕ → ℕ → Bool
kept_bit sign i j = not (eqb j i) || sign

-- the signs of the first k samples
abbrev pub sign_word : List Float → ℕ → ℕ
sign_word samples k = word_of (λ i. inside (get_or samples i nan)) k

-- word k of a row of samples
abbrev pub word_from : List Float → ℕ → ℕ
word_from row k = word_of (λ i. ltb (32 * k + i) (length row) && inside (get_or row (32 * k + i) nan)) 32

-- is x a place of the row y, and the sample there inside?
abbrev pub inside_row : ℕ → List Float → ℕ → ℕ → ℕ → Bool
inside_row n samples y z x = ltb x n && inside_of n samples x y z

-- the words of the sample layer z: row y has four, from 4 * y on
abbrev pub LayerWords : ℕ → List Float → ℕ → List ℕ → Type 0
LayerWords n samples z words =
    (y k : ℕ) → y < n → k < 4 → get_or words (4 * y + k) 0 ≡ word_of (λ i. inside_row n samples y z (32 * k + i)) 32

-- row y has its words from one up to another, and what stands before them is as it was
pub record WordsFilled (row : List Float) (y from to : ℕ) (before after : List ℕ) : Type 0 where
  pub words : (k : ℕ) → from ≤ k → k < to → get_or after (4 * y + k) 0 ≡ word_from row k
  pub kept : (i : ℕ) → i < 4 * y + from → get_or after i 0 ≡ get_or before i 0

-- row y has its words, and every other entry is as it was
abbrev pub RowFilled : ℕ → List Float → ℕ → ℕ → List ℕ → List ℕ → Type 0
RowFilled n samples y z before after =
    ((k : ℕ) → k < 4 → get_or after (4 * y + k) 0 ≡ word_of (λ i. inside_row n samples y z (32 * k + i)) 32)
    × ((i : ℕ) → i < 4 * y → get_or after i 0 ≡ get_or before i 0)
