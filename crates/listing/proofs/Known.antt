-- What a writer holds after the program's text, where the reader's bytes are known: `write_listing` cites both.
use mathlib.Core.Path.{◌≡◌, ap, subst, ◌∙◌}
use Rattle.std.specs.Prelude.{List, ℕ, take, Option, None, Some, IfSome, Result, Ok, Err, OnOk}
use Rattle.std.specs.Io.KnownBytes.{Appends}
use Rattle.listing.specs.Listing.{listing_of}

-- what follows from what an `Ok` has, an `Ok` has
pub on_ok : {T E A B : Type 0} (r : Result T E) → (A → B) → OnOk r A → OnOk r B
on_ok (Ok x) f a = f a
on_ok (Err e) f a = tt

-- the text of the bytes that were read, where these are the first of those that the reader had
pub listed-appended : (there : Option (List ℕ)) (old new : Option (List ℕ)) (read written : List ℕ)
    → IfSome there (λ bytes. read ≡ take 1589 bytes) → written ≡ listing_of read → Appends old new written
    → IfSome there (λ bytes. Appends old new (listing_of (take 1589 bytes)))
listed-appended None old new read written h w a = tt
listed-appended (Some bytes) old new read written h w a = subst (λ (piece : List ℕ). Appends old new piece) (w ∙ ap listing_of h) a
