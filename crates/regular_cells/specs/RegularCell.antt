-- A regular cell as the code takes it: the test for one, what is known of it, and its row named once its new edges are made. A private model, which the
-- contracts of the walk's functions cite.
use Rattle.std.specs.Prelude.{◌≡◌, Bool, true, List, ℕ, ◌+◌, ◌-◌, ◌*◌, ◌<◌, eqb, length, get_or, set, Float}
use Rattle.std.specs.Int.Bits.{bit_and}
use Rattle.marching_cubes_tables.specs.Rule.{row_edges, member}
use Rattle.walk.specs.Walk.{bit, times}
use Rattle.walk_models.specs.Lent.{Lent}
use Rattle.walk_models.specs.CacheMemory.{CacheMemory}
use Rattle.packed_tables.specs.Packed.{row_words}
use Rattle.packed_tables.specs.Regular.{regular_words, unfound}

-- a bit for each edge that a regular cell finds and that is absent, and for edge 0 if it is there
abbrev pub amiss_in : List ℕ → ℕ
amiss_in current =
    1 - bit (eqb (get_or current 0 0) 0) + 2 * bit (eqb (get_or current 1 0) 0) + 4 * bit (eqb (get_or current 2 0) 0) + 8 * bit (eqb (get_or current 3 0) 0)
    + 16 * bit (eqb (get_or current 4 0) 0)
    + 256 * bit (eqb (get_or current 8 0) 0)
    + 512 * bit (eqb (get_or current 9 0) 0)

-- no edge that the word names is amiss
abbrev pub is_regular : ℕ → List ℕ → Bool
is_regular regular current = eqb (bit_and (amiss_in current) regular) 0

-- both words are those of one row, and of the row's edges the cell finds all but those that a regular cell makes
pub record RegularOf (regular word : ℕ) (current : List ℕ) : Type 0 where
  pub case : ℕ
  pub case-lt : case < 256
  pub regular-is : regular ≡ get_or regular_words case 0
  pub word-is : word ≡ get_or row_words case 0
  pub twelve : length current ≡ 12
  pub absent : (e : ℕ) → member e (row_edges case) ≡ true → eqb (get_or current e 0) 0 ≡ unfound e

-- the number that `current` has for the edge e is the next index, and so for some edges one after the other
unfoldable pub name_held : ℕ → Lent CacheMemory (List Float) → Lent CacheMemory (List Float)
name_held e s =
    record {
      memory = s.memory;
      vertices = s.vertices;
      indices = set s.indices s.written (get_or s.memory.current e 0);
      made = s.made;
      written = s.written + 1;
    }

unfoldable pub name_edges : List ℕ → Lent CacheMemory (List Float) → Lent CacheMemory (List Float)
name_edges es s = times (length es) (λ j t. name_held (get_or es j 0) t) s
