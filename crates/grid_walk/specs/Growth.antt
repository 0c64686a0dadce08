-- Where a count that is taken layer by layer grows. A private model, which the contracts of the two passes cite; nobody need believe it.
use Rattle.std.specs.Prelude.{◌≡◌, ℕ, ◌≤◌}
use Rattle.grid_walk.specs.declared.Span.{Span}

-- of so many layers none before the span adds to the count, and none after it; `counted k` is the count after k layers
pub record GrowsWithin (counted : ℕ → ℕ) (layers : ℕ) (span : Span) : Type 0 where
  pub ordered : span.first ≤ span.last
  pub most : span.last ≤ layers
  pub none_before : counted span.first ≡ 0
  pub none_after : counted span.last ≡ counted layers
