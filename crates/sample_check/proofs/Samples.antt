-- The flag pass and the search for the lowest bad sample, one sample more, and what the two answers say of each other.
use mathlib.Core.Path.{◌≡◌, refl, sym, ap, ap₂, ◌∙◌}
use mathlib.Core.Bool.{Bool, true, false, cond, not, ◌||◌}
use mathlib.Core.Logic.{⊎_elim}
use mathlib.Core.List.{List, [], ◌∷◌, ◌++◌}
use Prim.Native.Nat.{ℕ, zero, suc, ◌+◌, ◌≤◌, ◌<◌}
use native.Mathlib.Nat.{not-suc-le-zero, le_of_suc-le-suc}
use native.Mathlib.Numerals.{add-one}
use native.Mathlib.Omega.{arith}
use lib.Dec.{ltb}
use lib.ListN.{length, get_or, take, drop}
use lib.Seq.{take-suc, drop-cons}
use borrow.Author.Tests.{ltb-false, not-false, lt-ltb, le-ltb}
use lib.Ieee.{Float, nan}
use Rattle.marching_cubes_tables.proofs.Tests.{lt-or-ge}
use Rattle.marching_cubes_impl.specs.Sample.{good}
use Rattle.std.specs.Prelude.{position, Some, None}
use Rattle.std.specs.List.{prefix_len}
use Rattle.std.proofs.lemmas.Bool.Decides.{nat_tests}
use Rattle.std.specs.Bool.{then_some}
use Rattle.walk.proofs.Bools.{or-none-left, or-none-right}
use Rattle.sample_check.specs.Samples.{any_bad, lowest_bad}

-- ---- the flag pass

any_bad-snoc : (vs : List Float) (v : Float) → any_bad (vs ++ (v ∷ [])) ≡ (any_bad vs || not (good v))
unfolding any_bad
any_bad-snoc [] v = last (good v)
  where
    last : (b : Bool) → (not b || false) ≡ not b
    last true = refl
    last false = refl
any_bad-snoc (u ∷ vs) v = ap (λ (b : Bool). not (good u) || b) (any_bad-snoc vs v) ∙ joined (not (good u)) (any_bad vs) (not (good v))
  where
    joined : (a b c : Bool) → (a || (b || c)) ≡ ((a || b) || c)
    joined true b c = refl
    joined false b c = refl

pub flag_suc : (samples : List Float) (i : ℕ) → i < length samples
    → (any_bad (take i samples) || not (good (get_or samples i nan))) ≡ any_bad (take (i + 1) samples)
flag_suc samples i h =
    sym (any_bad-snoc (take i samples) (get_or samples i nan))
    ∙ ap any_bad (sym (take-suc samples i nan h) ∙ ap (λ (k : ℕ). take k samples) (sym (add-one i)))

-- ---- the search

-- what the search finds from one place on, by the sample there
module _ (samples : List Float) (i : ℕ) (within : i < length samples) where
  pub lowest_bad-good : good (get_or samples i nan) ≡ true → i + lowest_bad (drop i samples) ≡ i + 1 + lowest_bad (drop (i + 1) samples)
  unfolding lowest_bad
  lowest_bad-good h =
      let here : lowest_bad (drop i samples) ≡ suc (lowest_bad (drop (i + 1) samples)) = rw (drop-cons samples i nan within, h, add-one) in
      omega arith

  pub lowest_bad-bad : good (get_or samples i nan) ≡ false → i + lowest_bad (drop i samples) ≡ i
  unfolding lowest_bad
  lowest_bad-bad h =
      let here : lowest_bad (drop i samples) ≡ 0 = rw (drop-cons samples i nan within, h) in
      omega arith

pub position_bad : (samples : List Float) → position (λ v. not (good v)) samples ≡ then_some (any_bad samples) (lowest_bad samples)
unfolding any_bad lowest_bad
position_bad [] = refl
position_bad (v ∷ vs) = among (good v) (any_bad vs) (lowest_bad vs) (prefix_len (λ x. not (not (good x))) vs) (length vs) (position_bad vs)
  where
    among : (b c : Bool) (k p l : ℕ) → cond (ltb p l) (Some p) None ≡ then_some c k
        → cond (ltb (cond (not (not b)) (1 + p) 0) (suc l)) (Some (cond (not (not b)) (1 + p) 0)) None ≡ then_some (not b || c) (cond b (suc k) 0)
    among true c k p l h = grind (arith, nat_tests)
    among false c k p l h = grind (arith, nat_tests)

-- ---- together

pub lowest_bad-le : (samples : List Float) → lowest_bad samples ≤ length samples
unfolding lowest_bad
lowest_bad-le [] = omega arith
lowest_bad-le (v ∷ vs) = among (good v) (lowest_bad vs) (length vs) (lowest_bad-le vs)
  where
    among : (b : Bool) (k l : ℕ) → k ≤ l → cond b (suc k) 0 ≤ suc l
    among true k l h = omega arith
    among false k l h = omega arith

ltb-suc : (a b : ℕ) → ltb (suc a) (suc b) ≡ ltb a b
ltb-suc a b =
    ⊎_elim (λ (l : a < b). lt-ltb (suc a) (suc b) (omega arith) ∙ sym (lt-ltb a b l))
    (λ (g : b ≤ a). le-ltb (suc a) (suc b) (omega arith) ∙ sym (le-ltb a b g))
    (lt-or-ge a b)

-- there is a bad sample exactly where the search ends at one
pub any_bad-lowest_bad : (samples : List Float) → any_bad samples ≡ ltb (lowest_bad samples) (length samples)
unfolding any_bad lowest_bad
any_bad-lowest_bad [] = refl
any_bad-lowest_bad (v ∷ vs) = among (good v) (any_bad vs) (lowest_bad vs) (any_bad-lowest_bad vs)
  where
    among : (b c : Bool) (k : ℕ) → c ≡ ltb k (length vs) → (not b || c) ≡ ltb (cond b (suc k) 0) (suc (length vs))
    among true c k h = h ∙ sym (ltb-suc k (length vs))
    among false c k h = sym (lt-ltb 0 (suc (length vs)) (omega arith))

-- nothing bad: every sample is good, and the search ends at the length
pub any_bad-none-good : (samples : List Float) → any_bad samples ≡ false → (i : ℕ) → i < length samples → good (get_or samples i nan) ≡ true
unfolding any_bad
any_bad-none-good [] e i h = absurd (not-suc-le-zero h)
any_bad-none-good (v ∷ vs) e zero h = not-false (good v) (or-none-left (not (good v)) (any_bad vs) e)
any_bad-none-good (v ∷ vs) e (suc i) h = any_bad-none-good vs (or-none-right (not (good v)) (any_bad vs) e) i (le_of_suc-le-suc h)

pub good-any_bad-none : (samples : List Float) → ((i : ℕ) → i < length samples → good (get_or samples i nan) ≡ true) → any_bad samples ≡ false
unfolding any_bad
good-any_bad-none [] h = refl
good-any_bad-none (v ∷ vs) h =
    ap₂ (λ (b c : Bool). not b || c) (h zero (omega arith)) (good-any_bad-none vs (λ i l. h (suc i) (omega arith)))

pub any_bad-none-length : (samples : List Float) → any_bad samples ≡ false → lowest_bad samples ≡ length samples
any_bad-none-length samples e =
    let least = ltb-false (lowest_bad samples) (length samples) (sym (any_bad-lowest_bad samples) ∙ e) in
    omega (arith, lowest_bad-le samples)
