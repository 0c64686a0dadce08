-- The bits of floats, one way and back: bits that are finite by the record's test are those of a finite float, and no bit is lost. Whoever turns a
-- mesh of bits into one of floats cites these.
use mathlib.Core.Path.{◌≡◌, refl, sym, ap, ap₂, ◌∙◌, subst}
use mathlib.Core.Bool.{Bool, true, false, cond, not}
use mathlib.Core.List.{List, [], ◌∷◌, map}
use Prim.Native.Nat.{ℕ, zero, suc, ◌/◌, ◌%◌, ◌≤◌, ◌<◌}
use native.Mathlib.Omega.{arith}
use lib.Dec.{T, leb, eqb}
use lib.ListN.{length, get_or, length-map}
use lib.Ieee.{Float, nan, inf, fin, binary32, is_nan, nan_bits, fits, of_bits, of_fields, to_bits}
use lib.Ieee.Bits.{of_bits-to_bits, to_bits-lt, to_bits-of_bits, nan_bits_is, nan_bits_above}
use borrow.Author.Tests.{ltb-true, ltb-false, le-ltb}
use Rattle.little_endian.proofs.Bytes.{Below}
use Rattle.std.proofs.lemmas.List.{get_or-map}
use Rattle.mesh_record.specs.Mesh.{finite}

finite-not-nan : (bits : ℕ) → finite bits ≡ true → T (not (is_nan (of_bits binary32 bits)))
finite-not-nan bits h =
    let under : bits % 2147483648 < 2139095040 = ltb-true (bits % 2147483648) 2139095040 h in
    let no : nan_bits binary32 bits ≡ false = nan_bits_above binary32 bits ∙ le-ltb 2139095040 (bits % 2147483648) (omega arith) in
    subst (λ (b : Bool). T (not b)) (sym (sym (nan_bits_is binary32 bits) ∙ no)) tt

-- a finite float, of either sign
abbrev pub number : Float → Bool
number nan = false
number (inf s) = false
number (fin s m e) = true

-- the exponent's field is all ones
full : (bits : ℕ) → 2139095040 ≤ bits % 2147483648 → bits % 2147483648 / 8388608 ≡ 255
full bits h = omega arith

not-number : (bits : ℕ) → 2139095040 ≤ bits % 2147483648 → number (of_bits binary32 bits) ≡ false
unfolding of_bits of_fields
not-number bits h = rw (full bits h) (either (eqb (bits % 8388608) 0) (leb 2147483648 bits))
  where
    either : (b s : Bool) → number (cond b (inf s) nan) ≡ false
    either true s = refl
    either false s = refl

pub finite-bits : (x : Float) → T (fits binary32 x) → number x ≡ true → finite (to_bits binary32 x) ≡ true
finite-bits x held is = by (finite (to_bits binary32 x)) refl
  where
    by : (b : Bool) → finite (to_bits binary32 x) ≡ b → b ≡ true
    by true e = refl
    by false e =
        let over = ltb-false (to_bits binary32 x % 2147483648) 2139095040 e in
        let none = sym (ap number (of_bits-to_bits binary32 x held)) ∙ not-number (to_bits binary32 x) over in
        sym none ∙ is

-- ---- lists

-- every float of a list is an f32
abbrev pub Floats : List Float → Type 0
Floats l = (i : ℕ) → i < length l → T (fits binary32 (get_or l i nan))

pub floats-of-bits : (l : List Float) → Floats l → map (of_bits binary32) (map (to_bits binary32) l) ≡ l
floats-of-bits [] h = refl
floats-of-bits (x ∷ l) h =
    ap₂ (λ (a : Float) (r : List Float). a ∷ r) (of_bits-to_bits binary32 x (h 0 (omega arith))) (floats-of-bits l (λ i within. h (suc i) (omega arith)))

pub bits-of-floats : (l : List ℕ) → Below 4294967296 l → ((i : ℕ) → i < length l → finite (get_or l i 0) ≡ true) → map (to_bits binary32) (map (of_bits binary32) l) ≡ l
bits-of-floats [] small h = refl
bits-of-floats (x ∷ l) small h =
    ap₂ (λ (a : ℕ) (r : List ℕ). a ∷ r) (to_bits-of_bits binary32 x (small 0 (omega arith)) (finite-not-nan x (h 0 (omega arith))))
    (bits-of-floats l (λ i within. small (suc i) (omega arith)) (λ i within. h (suc i) (omega arith)))

pub bits_small : (l : List Float) → Floats l → Below 4294967296 (map (to_bits binary32) l)
bits_small [] h i within = absurd (omega arith)
bits_small (x ∷ l) h zero within = to_bits-lt binary32 x (h 0 (omega arith))
bits_small (x ∷ l) h (suc i) within = bits_small l (λ j w. h (suc j) (omega arith)) i (omega arith)

pub bits-finite : (l : List Float) → Floats l → ((i : ℕ) → i < length l → number (get_or l i nan) ≡ true)
    → (i : ℕ) → i < length (map (to_bits binary32) l) → finite (get_or (map (to_bits binary32) l) i 0) ≡ true
bits-finite l held numbers i within =
    let here : i < length l = omega (arith, within, length-map l (to_bits binary32)) in
    ap finite (get_or-map (to_bits binary32) l i nan 0 here) ∙ finite-bits (get_or l i nan) (held i here) (numbers i here)
