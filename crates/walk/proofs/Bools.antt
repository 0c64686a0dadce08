-- Laws of Bool that the files beside this one share and the library lacks: what a conjunction or a disjunction of known value says of its parts.
use mathlib.Core.Path.{◌≡◌, refl, sym}
use mathlib.Core.Logic.{◌⊎◌, inl, inr}
use mathlib.Core.Bool.{Bool, true, false, ◌&&◌, ◌||◌, false≢true, true≢false}

pub bool_cases : (b : Bool) → (b ≡ true) ⊎ (b ≡ false)
bool_cases true = inl refl
bool_cases false = inr refl

pub and_left : (a b : Bool) → (a && b) ≡ true → a ≡ true
and_left true b h = refl
and_left false b h = h

pub and_right : (a b : Bool) → (a && b) ≡ true → b ≡ true
and_right true b h = h
and_right false b h = absurd (false≢true h)

pub or_split : (a b : Bool) → (a || b) ≡ true → (a ≡ true) ⊎ (b ≡ true)
or_split true b h = inl refl
or_split false b h = inr h

pub or-none-left : (a b : Bool) → (a || b) ≡ false → a ≡ false
or-none-left true b h = h
or-none-left false b h = refl

pub or-none-right : (a b : Bool) → (a || b) ≡ false → b ≡ false
or-none-right true b h = absurd (true≢false h)
or-none-right false b h = h

pub not-of : (b : Bool) → (b ≡ true → ⊥) → b ≡ false
not-of true h = absurd (h refl)
not-of false h = refl

-- two tests that pass together are the same test
pub iff-eq : (a b : Bool) → (a ≡ true → b ≡ true) → (b ≡ true → a ≡ true) → a ≡ b
iff-eq true b p q = sym (p refl)
iff-eq false true p q = q refl
iff-eq false false p q = refl
