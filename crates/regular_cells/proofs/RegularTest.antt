-- What the test of a regular cell says: an edge that the word names is there or absent as a regular cell has it. For `crate_cell`.
use mathlib.Core.Path.{◌≡◌, refl, sym, ap, ◌∙◌, subst}
use mathlib.Core.Logic.{⊎_elim}
use mathlib.Core.Bool.{Bool, true, false, not, ◌&&◌, ◌||◌, true≢false, false≢true}
use mathlib.Core.List.{List, [], ◌∷◌}
use Prim.Native.Nat.{ℕ, zero, suc, ◌+◌, ◌-◌, ◌*◌, ◌≤◌, ◌<◌}
use native.Mathlib.Omega.{arith}
use lib.Bits.{bit_and}
use lib.Dec.{eqb}
use lib.ListN.{length, get_or}
use borrow.Author.Tests.{eqb-true}
use Rattle.marching_cubes_tables.specs.Rule.{row_edges, bit_at, member}
use Rattle.marching_cubes_tables.proofs.Rule.{row-rule}
use Rattle.walk.specs.Walk.{bit}
use Rattle.walk.proofs.Bools.{bool_cases}
use Rattle.packed_tables.specs.Packed.{row_words}
use Rattle.packed_tables.specs.Regular.{regular_words, unfound, names}
use Rattle.packed_tables.specs.Unpacked.{Edges}
use Rattle.packed_tables.proofs.PackedEdges.{edges-of-each}
use Rattle.packed_tables.proofs.RegularWords.{Regular, regular-word}
use Rattle.sign_words.proofs.OneBit.{and-bit}
use Rattle.index_cache.specs.Found.{found_all}
use Rattle.regular_cells.specs.RegularCell.{amiss_in, is_regular, RegularOf}

-- ---- what a passed test says

passed-bit : (amiss regular e : ℕ) (p : Bool) → bit_at 0 e ≡ 0 → bit_at amiss e ≡ bit p → names regular e ≡ true → eqb (bit_and amiss regular) 0 ≡ true → p ≡ false
passed-bit amiss regular e p none ea named passed =
    off p
    (sym (and-bit amiss regular e p true ea (eqb-true (bit_at regular e) 1 named))
    ∙ ap (λ (w : ℕ). bit_at w e) (eqb-true (bit_and amiss regular) 0 passed)
    ∙ none)
  where
    off : (b : Bool) → bit (b && true) ≡ 0 → b ≡ false
    off true h = absurd (omega arith)
    off false h = refl

bit_le : (b : Bool) → bit b ≤ 1
bit_le true = omega arith
bit_le false = omega arith

not-bit : (b : Bool) → 1 - bit b ≡ bit (not b)
not-bit true = refl
not-bit false = refl

not-off : (b : Bool) → not b ≡ false → b ≡ true
not-off true h = refl
not-off false h = absurd (true≢false h)

-- the bits of the sum, each by its edge
module _ (a b c d e f g : ℕ) (la : a ≤ 1) (lb : b ≤ 1) (lc : c ≤ 1) (ld : d ≤ 1) (le : e ≤ 1) (lf : f ≤ 1) (lg : g ≤ 1) where
  abbrev sum : ℕ
  sum = 1 - a + 2 * b + 4 * c + 8 * d + 16 * e + 256 * f + 512 * g

  sum-bits : (bit_at sum 0 ≡ 1 - a) × (bit_at sum 1 ≡ b) × (bit_at sum 2 ≡ c) × (bit_at sum 3 ≡ d) × (bit_at sum 4 ≡ e) × (bit_at sum 8 ≡ f) × (bit_at sum 9 ≡ g)
  sum-bits = (omega arith, omega arith, omega arith, omega arith, omega arith, omega arith, omega arith)

module _ (regular : ℕ) (n x y l r : ℕ) (w : List ℕ) (passed : is_regular regular (found_all n x y l r w) ≡ true) where
  abbrev found : List ℕ
  found = found_all n x y l r w

  abbrev absent : ℕ → Bool
  absent e = eqb (get_or found e 0) 0

  amiss-bits : (bit_at (amiss_in found) 0 ≡ 1 - bit (absent 0)) × (bit_at (amiss_in found) 1 ≡ bit (absent 1)) × (bit_at (amiss_in found) 2 ≡ bit (absent 2))
      × (bit_at (amiss_in found) 3 ≡ bit (absent 3))
      × (bit_at (amiss_in found) 4 ≡ bit (absent 4))
      × (bit_at (amiss_in found) 8 ≡ bit (absent 8))
      × (bit_at (amiss_in found) 9 ≡ bit (absent 9))
  amiss-bits =
      sum-bits (bit (absent 0)) (bit (absent 1)) (bit (absent 2)) (bit (absent 3)) (bit (absent 4)) (bit (absent 8)) (bit (absent 9)) (bit_le (absent 0)) (bit_le (absent 1))
      (bit_le (absent 2)) (bit_le (absent 3)) (bit_le (absent 4)) (bit_le (absent 8)) (bit_le (absent 9))

  absent-at : (e : ℕ) → e < 12 → names regular e ≡ true → absent e ≡ unfound e
  absent-at zero h q = not-off (absent 0) (passed-bit (amiss_in found) regular 0 (not (absent 0)) refl (amiss-bits.0 ∙ not-bit (absent 0)) q passed)
  absent-at (suc zero) h q = passed-bit (amiss_in found) regular 1 (absent 1) refl amiss-bits.1 q passed
  absent-at (suc (suc zero)) h q = passed-bit (amiss_in found) regular 2 (absent 2) refl amiss-bits.2 q passed
  absent-at (suc (suc (suc zero))) h q = passed-bit (amiss_in found) regular 3 (absent 3) refl amiss-bits.3 q passed
  absent-at (suc (suc (suc (suc zero)))) h q = passed-bit (amiss_in found) regular 4 (absent 4) refl amiss-bits.4 q passed
  absent-at (suc (suc (suc (suc (suc zero))))) h q = refl
  absent-at (suc (suc (suc (suc (suc (suc zero)))))) h q = refl
  absent-at (suc (suc (suc (suc (suc (suc (suc zero))))))) h q = refl
  absent-at (suc (suc (suc (suc (suc (suc (suc (suc zero)))))))) h q = passed-bit (amiss_in found) regular 8 (absent 8) refl amiss-bits.5 q passed
  absent-at (suc (suc (suc (suc (suc (suc (suc (suc (suc zero))))))))) h q = passed-bit (amiss_in found) regular 9 (absent 9) refl amiss-bits.6 q passed
  absent-at (suc (suc (suc (suc (suc (suc (suc (suc (suc (suc zero)))))))))) h q = refl
  absent-at (suc (suc (suc (suc (suc (suc (suc (suc (suc (suc (suc zero))))))))))) h q = refl
  absent-at (suc (suc (suc (suc (suc (suc (suc (suc (suc (suc (suc (suc e)))))))))))) h q = absurd (omega arith)

member-lt : (es : List ℕ) (e : ℕ) → Edges es → member e es ≡ true → e < 12
unfolding Edges
member-lt [] e known m = absurd (false≢true m)
member-lt (d ∷ es) e known m =
    ⊎_elim
    (λ (t : eqb e d ≡ true). subst (λ (k : ℕ). k < 12) (sym (eqb-true e d t)) known.0)
    (λ (f : eqb e d ≡ false). member-lt es e known.1 (sym (ap (λ (b : Bool). b || member e es) f) ∙ m))
    (bool_cases (eqb e d))

-- as the code reads the words
pub regular-of : (case regular word n x y l r : ℕ) (w current rows regulars : List ℕ)
    → case < 256
    → rows ≡ row_words
    → regulars ≡ regular_words
    → word ≡ get_or rows case 0
    → regular ≡ get_or regulars case 0
    → current ≡ found_all n x y l r w
    → is_regular regular current ≡ true
    → RegularOf regular word current
regular-of case regular word n x y l r w current rows regulars h er eg ew ep ef passed =
    let is : regular ≡ get_or regular_words case 0 = ep ∙ ap (λ (t : List ℕ). get_or t case 0) eg in
    let facts : Regular regular (row_edges case) = subst (λ (k : ℕ). Regular k (row_edges case)) (sym is) (regular-word case h) in
    let known : Edges (row_edges case) = edges-of-each (row_edges case) (row-rule case h).edge in
    record {
      case = case;
      case-lt = h;
      regular-is = is;
      word-is = ew ∙ ap (λ (t : List ℕ). get_or t case 0) er;
      twelve = ap length ef;
      absent = λ e m.
          let le : e < 12 = member-lt (row_edges case) e known m in
          ap (λ (t : List ℕ). eqb (get_or t e 0) 0) ef
          ∙ absent-at regular n x y l r w (subst (λ (t : List ℕ). is_regular regular t ≡ true) ef passed) e le (facts.named-are e le ∙ m);
    }
