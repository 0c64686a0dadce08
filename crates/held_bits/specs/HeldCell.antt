-- The crate numbering's count as the code keeps it: for each place of the two layers and of the two rows of the index cache, one word with a bit for each
-- edge whose number there is not 0. A private model, which the contracts of the count's functions cite; `proofs/HeldBorder.antt` proves what it
-- comes to, and nobody need believe it.
use Rattle.std.specs.Prelude.{cond, List, ℕ, ◌+◌, ◌-◌, ◌*◌, ◌/◌, ◌%◌, ◌≤◌, eqb, length, get_or, set}
use Rattle.std.specs.Int.Bits.{bit_or, bit_and, bit_xor}
use Rattle.std.specs.Int.Count.{ones}
use Rattle.walk.specs.Walk.{times}
use Rattle.lent_mesh.specs.declared.Counts.{Counts}

pub record Held : Type 0 where
  pub work : List ℕ
  pub made : ℕ
  pub written : ℕ

abbrev pub held : List ℕ → Counts → Held
held work counts = record { work = work; made = counts.made; written = counts.written }

-- the words that a size asks for
abbrev pub held_room : ℕ → ℕ
held_room n = 2 * (n * n) + 2 * n

-- the word of the place (x, y) in layer l, and of the place x in row r
abbrev pub layer_word : ℕ → ℕ → ℕ → ℕ → ℕ
layer_word n l x y = 2 * (y * n + x) + l

abbrev pub row_word : ℕ → ℕ → ℕ → ℕ
row_word n r x = 2 * (n * n) + 2 * x + r

-- the edges that a cell can make: vertex 0 reads as absent, so in the cell that makes it those after the first visit
abbrev pub named_set : ℕ → ℕ → ℕ
named_set word written = cond (eqb written 0) (word / 0x1_0000 % 4096) (word % 4096)

-- and what the first visit of all makes
abbrev pub first_made : ℕ → ℕ → ℕ
first_made word written = cond (eqb written 0) (word / 0x1000_0000) 0

-- edges 4 to 7 of the layer read as 0 to 3; of the row 6 as 4, 11 as 8 and 10 as 9. The bits of 10 and 11 are exchanged, so that one shift does
unfoldable pub held_set : ℕ → ℕ → ℕ
held_set a b = bit_or (a / 16 % 16) (bit_and (b / 4) 0x310)

-- named and not held
unfoldable pub new_set : ℕ → ℕ → ℕ
new_set named has = bit_xor (bit_or named has) has

unfoldable pub put_set : List ℕ → ℕ → ℕ → List ℕ
put_set work at new = set work at (bit_or (get_or work at 0) new)

-- one cell that reads layer l and row r, by the word of its case
module _ (n l r x y word : ℕ) (s : Held) where
  abbrev pub fresh_set : ℕ
  fresh_set = new_set (named_set word s.written) (held_set (get_or s.work (layer_word n l x y) 0) (get_or s.work (row_word n r x) 0))

  unfoldable pub held_cell : Held
  held_cell =
      record {
        work = put_set (put_set s.work (layer_word n (1 - l) x y) fresh_set) (row_word n (1 - r) x) fresh_set;
        made = s.made + first_made word s.written + ones fresh_set;
        written = s.written + word / 4096 % 16;
      }

-- the first k places of row r to zero
unfoldable pub clear_held : ℕ → ℕ → ℕ → List ℕ → List ℕ
clear_held n r k w = times k (λ x t. set t (row_word n r x) 0) w

-- what the code may rely on beside its size: room for the words
pub record HeldRoom (n : ℕ) (work : List ℕ) : Type 0 where
  pub room : held_room n ≤ length work
