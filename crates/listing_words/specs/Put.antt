-- Text that is put into lent bytes: what they hold, and where the text ends.
use Rattle.std.specs.Prelude.{◌≡◌, List, ℕ, ◌+◌, ◌≤◌, length}
use Rattle.std.proofs.lemmas.List.Edits.{sets}
use Rattle.listing_words.specs.declared.Text.{Text}

-- `new` is `old` with the piece from place `at` on, and `end` is the place after it
pub record Put (old : List ℕ) (at : ℕ) (piece new : List ℕ) (end : ℕ) : Type 0 where
  pub holds : new ≡ sets old at piece
  pub ends : end ≡ at + length piece

-- there is room for so many bytes more
abbrev pub HasRoom : Text → ℕ → Type 0
HasRoom text more = text.end + more ≤ length text.bytes.now

-- the piece follows the text so far, in the same lent bytes, and nothing else was written
pub record Puts (old : Text) (piece : List ℕ) (new : Text) : Type 0 where
  pub put : Put old.bytes.now old.end piece new.bytes.now new.end
  pub whole : length new.bytes.now ≡ length old.bytes.now
  pub lent : new.bytes.ghost_name ≡ old.bytes.ghost_name
