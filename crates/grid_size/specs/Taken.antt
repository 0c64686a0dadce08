-- Which words are sizes: document 01's 2 to 128, and every other is refused.
use Rattle.std.specs.Prelude.{ℕ, ◌≡◌, ◌≤◌, Result, MatchResult}
use Rattle.refusals.specs.declared.Refusal.{Refusal}
use Rattle.refusals.specs.declared.Refusal.TheVariants as refusal
use Rattle.grid_size.specs.declared.Size.{Size}

-- the result is the size that the word says, or a refusal of a word that says none
abbrev pub Taken : ℕ → Result Size Refusal → Type 0
Taken word r = MatchResult r (λ size. size.n ≡ word) (λ e. (e ≡ refusal.Size) × (2 ≤ word → word ≤ 128 → ⊥))
