-- `glyph`: the test that the code makes is the definition's.
use mathlib.Core.Path.{refl}
use borrow.Author.Tests.{lt-ltb, le-ltb}
use Rattle.listing_words.proofs.glyph.Goals as goal

pub returns-then-digit-lt10 : goal.returns-then-digit-lt10
returns-then-digit-lt10 c = rw (lt-ltb _ 10 c.if-digit-lt10.true) refl

pub returns-else-digit-lt10 : goal.returns-else-digit-lt10
returns-else-digit-lt10 c = rw (le-ltb _ 10 c.if-digit-lt10.false) refl
