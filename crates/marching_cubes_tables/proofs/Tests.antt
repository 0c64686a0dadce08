-- Tests that pass: what `T (a && b)` says of each part, and a comparison either way. Every crate above cites these.
use mathlib.Core.Path.{◌≡◌, refl}
use mathlib.Core.Bool.{Bool, true, false, ◌&&◌, beq}
use Prim.Native.Nat.{ℕ, zero, suc, ◌<◌, ◌≤◌, zero-le, suc-le-suc}
use mathlib.Core.Logic.{◌⊎◌, inl, inr, ⊎_elim}
use lib.Dec.{T}

pub both_left : (a b : Bool) → T (a && b) → T a
both_left true b t = tt
both_left false b t = t

pub both_right : (a b : Bool) → T (a && b) → T b
both_right true b t = t
both_right false b t = absurd t

pub beq-eq : (a b : Bool) → T (beq a b) → a ≡ b
beq-eq true true t = refl
beq-eq true false t = absurd t
beq-eq false true t = absurd t
beq-eq false false t = refl

pub lt-or-ge : (a b : ℕ) → (a < b) ⊎ (b ≤ a)
lt-or-ge a zero = inr zero-le
lt-or-ge zero (suc b) = inl (suc-le-suc zero-le)
lt-or-ge (suc a) (suc b) = ⊎_elim (λ p. inl (suc-le-suc p)) (λ q. inr (suc-le-suc q)) (lt-or-ge a b)
