-- The layers in which a count grows, for a count that is always the same as another.
use mathlib.Core.Path.{◌≡◌, sym, ◌∙◌, subst}
use Prim.Native.Nat.{ℕ}
use Rattle.grid_walk.specs.declared.Span.{Span}
use Rattle.grid_walk.specs.Growth.{GrowsWithin}

pub span-alike : (counted other : ℕ → ℕ) (layers : ℕ) (span : Span) → ((k : ℕ) → counted k ≡ other k) → GrowsWithin counted layers span
    → GrowsWithin other layers span
span-alike counted other layers span same within =
    record {
      ordered = within.ordered;
      most = within.most;
      none_before = sym (same span.first) ∙ within.none_before;
      none_after = sym (same span.last) ∙ within.none_after ∙ same layers;
    }

-- and for a walk whose last layer is told otherwise
pub span-whole : (counted other : ℕ → ℕ) (last layers : ℕ) (span : Span) → ((k : ℕ) → counted k ≡ other k) → GrowsWithin counted last span
    → last ≡ layers → GrowsWithin other layers span
span-whole counted other last layers span same within all =
    subst (λ (k : ℕ). GrowsWithin other k span) all (span-alike counted other last span same within)
