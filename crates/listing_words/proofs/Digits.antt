-- The digits of a number: how many there are, and what one more of them adds. `put_digits`, `put_number` and `put_float` cite these.
use mathlib.Core.Path.{◌≡◌, refl, sym, ap, ◌∙◌, subst}
use mathlib.Core.List.{[], ◌∷◌}
use Prim.Native.Nat.{ℕ, zero, suc, ◌+◌, ◌-◌, ◌*◌, ◌/◌, ◌%◌, ◌^◌, ◌≤◌, ◌<◌, max}
use native.Mathlib.Nat.{add_comm, pow-succ'}
use native.Mathlib.Numerals.{add-one, sub-one}
use native.Mathlib.Omega.{arith}
use lib.ListN.{length, length-append}
use borrow.Author.Tests.{lt-ltb, le-ltb}
use Rattle.listing_words.specs.declared.Text.{Text}
use Rattle.listing_words.specs.Put.{Puts}
use Rattle.listing_words.specs.Digits.{glyph, digits, places_within}
use Rattle.listing_words.proofs.Putting.{puts_then}

pub digits-length : (base places n : ℕ) → length (digits base places n) ≡ places
digits-length base zero n = refl
digits-length base (suc places) n =
    let rest = digits base places (n / base) in
    length-append rest (glyph (n % base) ∷ []) ∙ ap (λ (k : ℕ). k + 1) (digits-length base places (n / base)) ∙ add-one places

pub digits-next : {a b c : Text} (base places n byte : ℕ) → 0 < places → byte ≡ glyph (n % base) → Puts a (digits base (places - 1) (n / base)) b → Puts b (byte ∷ []) c
    → Puts a (digits base places n) c
digits-next base zero n byte some is h last = absurd (omega arith)
digits-next {a} {b} {c} base (suc places) n byte some is h last =
    let rest = subst (λ (k : ℕ). Puts a (digits base k (n / base)) b) (sub-one (suc places)) h in
    let end = subst (λ (k : ℕ). Puts b (k ∷ []) c) is last in
    puts_then rest end

-- ---- how many digits a number has

one-add : (k : ℕ) → 1 + k ≡ suc k
one-add k = add_comm 1 k ∙ add-one k

pub places_within-ten : (more n : ℕ) → (more ≡ 0 → ⊥) → 10 ≤ n → 1 + places_within (more - 1) (n / 10) ≡ places_within more n
places_within-ten zero n some h = absurd (some refl)
places_within-ten (suc more) n some h = rw (le-ltb n 10 h, sub-one (suc more)) (one-add (places_within more (n / 10)))

pub places_within-one : (more n : ℕ) → n < 10 → 1 ≡ places_within more n
places_within-one zero n h = refl
places_within-one (suc more) n h = rw (lt-ltb n 10 h) refl

pub places_within-none : (more n : ℕ) → more ≡ 0 → 1 ≡ places_within more n
places_within-none more n h = rw h refl

power-some : (k : ℕ) → 0 < 10 ^ k
power-some zero = omega arith
power-some (suc k) = let before = power-some k in rw pow-succ' (omega arith)

places_within-log : (more k n : ℕ) → k ≤ more → 10 ^ k ≤ max n 1 → n < 10 * 10 ^ k → places_within more n ≡ k + 1
places_within-log zero k n most least below = omega arith
places_within-log (suc more) zero n most least below = sym (places_within-one (suc more) n (omega arith))
places_within-log (suc more) (suc k) n most least below =
    let power : 10 ^ suc k ≡ 10 * 10 ^ k = pow-succ' 10 k in
    let some : 0 < 10 ^ k = power-some k in
    let tens : 1 + places_within more (n / 10) ≡ places_within (suc more) n = rw sub-one at (places_within-ten (suc more) n (λ z. cc) (omega arith)) in
    let fewer : places_within more (n / 10) ≡ k + 1 = places_within-log more k (n / 10) (omega arith) (omega arith) (omega arith) in
    sym tens ∙ omega (arith, fewer)

pub places-log : (k n : ℕ) → k < 20 → 10 ^ k ≤ max n 1 → max n 1 < 10 * 10 ^ k → k + 1 ≡ places_within 19 n
places-log k n most least below = sym (places_within-log 19 k n (omega arith) least (omega arith))
