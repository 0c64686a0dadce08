-- Laws of the sign byte: it fits its bits, one more value adds one more bit, and each bit says whether its value is inside.
use mathlib.Core.Path.{◌≡◌, sym, ◌∙◌, ap, subst}
use mathlib.Core.Bool.{Bool, true, false}
use mathlib.Core.List.{List, [], ◌∷◌, ◌++◌}
use Prim.Native.Nat.{ℕ, zero, suc, ◌+◌, ◌*◌, ◌/◌, ◌%◌, ◌^◌, ◌≤◌, ◌<◌}
use native.Mathlib.Nat.{pow-succ', mul_left_comm, mul-one, mul_comm, add_comm, div-one, not-suc-le-zero, le_of_suc-le-suc}
use native.Mathlib.Numerals.{add-one, one-add, unary_clauses}
use native.Mathlib.Omega.{arith}
use lib.ListN.{length, take, get_or, length-take}
use lib.Seq.{take-suc}
use lib.Pow.{shl_exact, shr-shr}
use lib.Arith.{digits_div, digits_mod}
use lib.Bits.{bit_or, or_shifted_r}
use lib.Ieee.{Float, nan, binary32, le, of_bits}
use Rattle.marching_cubes_impl.specs.Sample.{inside}
use Rattle.marching_cubes_impl.specs.Signs.{bit, sign_byte}

pub bit_le : (b : Bool) → bit b ≤ 1
bit_le true = omega arith
bit_le false = omega arith

-- the code's comparison with 0.0
pub inside-test : (v : Float) (b : Bool) → le v (of_bits binary32 0) ≡ b → inside v ≡ b
unfolding inside of_bits
inside-test v b e = e

pub sign_byte-lt : (vs : List Float) → sign_byte vs < 2 ^ length vs
sign_byte-lt [] = omega arith
sign_byte-lt (v ∷ vs) =
    let h : sign_byte vs < 2 ^ length vs = sign_byte-lt vs in
    let p : bit (inside v) ≤ 1 = bit_le (inside v) in
    simp unary_clauses (omega arith)

-- one more value: its bit is at the weight of the place
pub sign_byte-snoc : (vs : List Float) (v : Float) → sign_byte (vs ++ (v ∷ [])) ≡ bit (inside v) * 2 ^ length vs + sign_byte vs
sign_byte-snoc [] v = simp (mul-one) (omega arith)
sign_byte-snoc (u ∷ vs) v =
    let h : sign_byte (vs ++ (v ∷ [])) ≡ bit (inside v) * 2 ^ length vs + sign_byte vs = sign_byte-snoc vs v in
    let e : bit (inside v) * 2 ^ suc (length vs) ≡ 2 * (bit (inside v) * 2 ^ length vs) = rw (pow-succ', mul_left_comm) in
    omega (arith, h, e)

pub sign_byte-take : (vs : List Float) (i : ℕ) → i < length vs → sign_byte (take (i + 1) vs) ≡ bit (inside (get_or vs i nan)) * 2 ^ i + sign_byte (take i vs)
sign_byte-take vs i h =
    let l : length (take i vs) ≡ i = simp length-take (omega arith) in
    rw (add-one, take-suc vs i nan) (sign_byte-snoc (take i vs) (get_or vs i nan) ∙ rw l)

-- a bit that is shifted into place and put in by `|`, at any width w
pub or-bit : (w i s : ℕ) → i < w → s < 2 ^ i → bit_or s (1 * 2 ^ i % 2 ^ w) ≡ 1 * 2 ^ i + s
or-bit w i s h l = ap (bit_or s) (shl_exact 1 i w (omega arith) (omega arith)) ∙ or_shifted_r 1 i s l

-- a turn of the loop that builds the byte: value i is inside, or it is not
pub turn_in : (vs : List Float) (i : ℕ) → i < length vs → i < 8 → le (get_or vs i nan) (of_bits binary32 0) ≡ true
    → bit_or (sign_byte (take i vs)) (1 * 2 ^ i % 2 ^ 8) ≡ sign_byte (take (i + 1) vs)
turn_in vs i h h8 t =
    let l : length (take i vs) ≡ i = simp length-take (omega arith) in
    let b : sign_byte (take i vs) < 2 ^ i = subst (λ (n : ℕ). sign_byte (take i vs) < 2 ^ n) l (sign_byte-lt (take i vs)) in
    or-bit 8 i (sign_byte (take i vs)) h8 b ∙ sym (sign_byte-take vs i h ∙ rw (inside-test (get_or vs i nan) true t))

pub turn-out : (vs : List Float) (i : ℕ) → i < length vs → le (get_or vs i nan) (of_bits binary32 0) ≡ false → sign_byte (take i vs) ≡ sign_byte (take (i + 1) vs)
turn-out vs i h t = sym (sign_byte-take vs i h ∙ rw (inside-test (get_or vs i nan) false t) (omega arith))

half : (b n : ℕ) → b ≤ 1 → (b + 2 * n) / 2 ≡ n
half b n h = rw (add_comm b (2 * n), mul_comm 2 n) (digits_div n (omega arith))

odd : (b n : ℕ) → b ≤ 1 → (b + 2 * n) % 2 ≡ b
odd b n h = rw (add_comm b (2 * n), mul_comm 2 n) (digits_mod n (omega arith))

-- bit i of the sign byte is set exactly when value i is <= 0.0
pub sign_byte-bit : (vs : List Float) (i : ℕ) → i < length vs → sign_byte vs / 2 ^ i % 2 ≡ bit (inside (get_or vs i nan))
sign_byte-bit [] i h = absurd (not-suc-le-zero h)
sign_byte-bit (v ∷ vs) zero h = rw (div-one (bit (inside v) + 2 * sign_byte vs)) (odd (bit (inside v)) (sign_byte vs) (bit_le (inside v)))
sign_byte-bit (v ∷ vs) (suc i) h =
    let n = bit (inside v) + 2 * sign_byte vs in
    let e : n / 2 ^ suc i ≡ sign_byte vs / 2 ^ i =
    sym (ap (λ (k : ℕ). n / 2 ^ k) (one-add i)) ∙ (sym (shr-shr n 1 i) ∙ ap (λ (k : ℕ). k / 2 ^ i) (half (bit (inside v)) (sign_byte vs) (bit_le (inside v)))) in
    ap (λ (k : ℕ). k % 2) e ∙ sign_byte-bit vs i (le_of_suc-le-suc h)

-- of eight values it is a byte
pub sign_byte-byte : (vs : List Float) → length vs ≡ 8 → sign_byte vs < 256
sign_byte-byte vs e = subst (λ (n : ℕ). sign_byte vs < 2 ^ n) e (sign_byte-lt vs)
