-- What is known of a grid that was accepted up to cause 4.
use Rattle.std.specs.Prelude.{◌≡◌, List, ℕ, ◌+◌, ◌*◌, ◌≤◌, length, Float}
use Rattle.outcome.specs.Outcome.{work_room}

pub record Accepted (n : ℕ) (samples : List Float) (work : List ℕ) : Type 0 where
  pub least : 2 ≤ n
  pub most : n ≤ 128
  pub samples-whole : length samples ≡ n * n * (n + 1)
  pub work-room : work_room n ≤ length work
