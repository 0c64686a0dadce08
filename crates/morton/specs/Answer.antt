-- What is answered about a key: document 01, "Morton keys", and cause 9 of its table. Its cell is in crates/morton_cells. Held to W9 by
-- crates/morton_cells/proofs/Cases.antt, and to the Rust by the oracle.
use Rattle.std.specs.Prelude.{◌&&◌, cond, ℕ, ◌+◌, ◌*◌, ◌/◌, max, leb, ltb, Result, Ok, Err}
use Rattle.morton.specs.declared.BadKey.{BadKey}
use Rattle.morton.specs.Key.{good, level_in}

abbrev pub bad_key : BadKey
bad_key = record {}

abbrev pub level_of : ℕ → Result ℕ BadKey
level_of key = cond (good key) (Ok (level_in key)) (Err bad_key)

-- shifted right by 3, never below 1
abbrev pub parent_of : ℕ → Result ℕ BadKey
parent_of key = cond (good key) (Ok (max (key / 8) 1)) (Err bad_key)

-- refused at level 21 or above 7
abbrev pub child_of : ℕ → ℕ → Result ℕ BadKey
child_of key which = cond (good key && ltb (level_in key) 21 && leb which 7) (Ok (8 * key + which)) (Err bad_key)

-- document 01's cause of an answer
abbrev pub key_cause : {A : Type 0} → Result A BadKey → ℕ
key_cause (Ok value) = 0
key_cause (Err refused) = 9
