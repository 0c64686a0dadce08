-- What a regular cell of the crate numbering makes, in one word for each row: a cell is regular where it finds each edge that its row names but those of
-- `unfound`. What the words hold is proved in `proofs/RegularWords.antt` by one test over the table, so nobody need believe them.
use Rattle.std.specs.Prelude.{Bool, true, false, cond, List, [], ◌∷◌, map, ℕ, ◌+◌, ◌*◌, ◌/◌, ◌%◌, ◌^◌, eqb, get_or}
use Rattle.marching_cubes_tables.specs.Tables.{triangle_connection}
use Rattle.marching_cubes_tables.specs.Rule.{named, bit_at}
use Rattle.walk.specs.Walk.{bit}

-- edges 5, 6, 7, 10 and 11 are looked for nowhere outside the cell; edge 0 is found only where the cell below made it as its edge 4, which cells of a
-- first row do
abbrev pub unfound : ℕ → Bool
unfound e = get_or (true ∷ false ∷ false ∷ false ∷ false ∷ true ∷ true ∷ true ∷ false ∷ false ∷ true ∷ true ∷ []) e false

-- what is read off a word: from the lowest a bit for each edge that the row names, four bits for the number of those that are new, and for each edge
-- four bits with its rank among them
abbrev pub names : ℕ → ℕ → Bool
names word e = eqb (bit_at word e) 1

abbrev pub rank_of : ℕ → ℕ → ℕ
rank_of word e = word / 2 ^ (16 + 4 * e) % 16

abbrev pub new_count : ℕ → ℕ
new_count word = word / 2 ^ 12 % 16

-- an edge of the row is noted where it is first named
abbrev noted : ℕ → ℕ → ℕ
noted e word = cond (names word e) word (word + 2 ^ e + bit (unfound e) * (new_count word * 2 ^ (16 + 4 * e) + 2 ^ 12))

abbrev regular_word : ℕ → List ℕ → ℕ
regular_word word [] = word
regular_word word (e ∷ es) = regular_word (noted e word) es

unfoldable pub regular_words : List ℕ
regular_words = map (λ r. regular_word 0 (named r)) triangle_connection
