-- A child above 7 is refused, by the definition alone.
use mathlib.Core.Path.{◌≡◌}
use mathlib.Core.Bool.{true}
use Prim.Native.Nat.{ℕ, ◌<◌}
use borrow.Author.Tests.{lt-ltb, lt-leb}
use Rattle.std.specs.Prelude.{Err}
use Rattle.morton.specs.Key.{good, level_in}
use Rattle.morton.specs.Answer.{bad_key, child_of}

pub child_above : (key which : ℕ) → good key ≡ true → level_in key < 21 → 7 < which → Err bad_key ≡ child_of key which
child_above key which h l w = rw (h, lt-ltb _ _ l, lt-leb _ _ w)
