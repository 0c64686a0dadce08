-- Sets of edges as bits of a word, and how many edges a set has: the new edges of a row are counted by the set that has its edges and lacks those
-- that are held.
use mathlib.Core.Path.{◌≡◌, refl, sym, ap, ap₂, ◌∙◌, subst}
use mathlib.Core.Bool.{Bool, true, false, cond, not, ◌&&◌, ◌||◌}
use mathlib.Core.List.{List}
use Prim.Native.Nat.{ℕ, zero, suc, ◌+◌, ◌/◌, ◌%◌, ◌^◌, ◌<◌}
use native.Mathlib.Nat.{div-one}
use native.Mathlib.Numerals.{add-one}
use native.Mathlib.Omega.{arith}
use lib.Bits.{bit_or, bit_xor, or_lt, xor_lt}
use lib.Count.{ones, ones_step, ones-le}
use lib.Dec.{eqb}
use lib.ListN.{length}
use lib.Pow.{shr_lt}
use Rattle.marching_cubes_tables.specs.Rule.{bit_at, member}
use Rattle.walk.specs.Walk.{bit}
use Rattle.walk.specs.Ownership.{new_edges}
use Rattle.walk.proofs.NewEdges.{counted, new_edges-counted}
use Rattle.packed_tables.specs.Unpacked.{Edges}
use Rattle.packed_tables.proofs.PackedEdges.{edges-each}
use Rattle.sign_words.proofs.OneBit.{or-bit, xor-bit, shift-bit}
use Rattle.held_bits.specs.HeldCell.{new_set}

-- ---- how many edges a set has

pub ones-counted : (k w : ℕ) (f : ℕ → Bool) → w < 2 ^ k → ((i : ℕ) → i < k → bit_at w i ≡ bit (f i)) → ones w ≡ counted k f
unfolding counted
ones-counted zero w f h b = omega (arith, ones-le 0 w h)
ones-counted (suc k) w f h b =
    let below : w / 2 ^ 1 < 2 ^ k = shr_lt k 1 (subst (λ (j : ℕ). w < 2 ^ j) (sym (add-one k)) h) in
    let low : w % 2 ≡ bit (f 0) = ap (λ (x : ℕ). x % 2) (sym (div-one w)) ∙ b 0 (omega arith) in
    ones_step w
    ∙ ap₂ (λ (x y : ℕ). x + y) low
    (ones-counted k (w / 2 ^ 1) (λ i. f (suc i)) below (λ i l. shift-bit w i ∙ ap (bit_at w) (add-one i) ∙ b (suc i) (omega arith)))

-- ---- the edge of a bit: 10 and 11 are exchanged

abbrev pub edge_at : ℕ → ℕ
edge_at i = cond (eqb i 10) 11 (cond (eqb i 11) 10 i)

counted-exchanged : (f : ℕ → Bool) → counted 12 (λ i. f (edge_at i)) ≡ counted 12 f
unfolding counted
counted-exchanged f = omega arith

-- the word has a bit for each edge of the set
abbrev pub Has : ℕ → (ℕ → Bool) → Type 0
Has word f = (i : ℕ) → i < 12 → bit_at word i ≡ bit (f (edge_at i))

pub ones-edges : (w : ℕ) (f : ℕ → Bool) → w < 4096 → Has w f → ones w ≡ counted 12 f
ones-edges w f h b = ones-counted 12 w (λ i. f (edge_at i)) h b ∙ counted-exchanged f

-- ---- named and not held

not-held : (a b : Bool) → bit_xor (bit (a || b)) (bit b) ≡ bit (a && not b)
not-held true true = refl
not-held true false = refl
not-held false true = refl
not-held false false = refl

pub new_set-has : (named held : ℕ) (f h : ℕ → Bool) → Has named f → Has held h → Has (new_set named held) (λ e. f e && not (h e))
unfolding new_set
new_set-has named held f h p q i l =
    xor-bit (bit_or named held) held i (f (edge_at i) || h (edge_at i)) (h (edge_at i)) (or-bit named held i (f (edge_at i)) (h (edge_at i)) (p i l) (q i l)) (q i l)
    ∙ not-held (f (edge_at i)) (h (edge_at i))

pub new_set-lt : (named held : ℕ) → named < 4096 → held < 4096 → new_set named held < 4096
unfolding new_set
new_set-lt named held p q = xor_lt 12 (bit_or named held) held (or_lt 12 named held p q) q

-- how many they are, where the word `named` has the edges of a list
pub new_set-ones : (es : List ℕ) (named held : ℕ) (h : ℕ → Bool) → Edges es → named < 4096 → held < 4096 → Has named (λ e. member e es) → Has held h
    → ones (new_set named held) ≡ length (new_edges (λ e. not (h e)) es)
new_set-ones es named held h each p q a b =
    ones-edges (new_set named held) (λ e. member e es && not (h e)) (new_set-lt named held p q) (new_set-has named held (λ e. member e es) h a b)
    ∙ sym (new_edges-counted es (λ e. not (h e)) (edges-each es each))
