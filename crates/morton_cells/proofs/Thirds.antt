-- Every third bit of a word, packed: fewer of them are the remainder of more, and the three masked folds of `coordinate` give them.
use mathlib.Core.Path.{◌≡◌, refl, sym, ap, ap₂, ◌∙◌, subst}
use Prim.Native.Nat.{ℕ, zero, suc, ◌+◌, ◌-◌, ◌*◌, ◌/◌, ◌%◌, ◌^◌, ◌≤◌, ◌<◌}
use native.Mathlib.Nat.{le_trans, le_of_suc-le-suc, not-suc-le-zero, mod-one, zero-lt-suc, mod-lt, pow-suc}
use native.Mathlib.Omega.{arith}
use lib.Dec.{lit≤}
use lib.Arith.{digits_div, digits_mod, mod-mul}
use lib.Pow.{pow_pos, mod-mod-pow}
use lib.Bits.{bit_and, and_mask}
use Rattle.morton.specs.Key.{level_in}
use Rattle.morton_sums.specs.Interleaved.{thirds, Axis, X, Y, Z, place, width}
use Rattle.morton_cells.specs.Cell.{center_at, center_on}
use Rattle.morton.proofs.TopBit.{level_in_le}
use Rattle.morton_cells.proofs.Packing.{pack, sparse, folded, thrice, pack-masked, sparse-masked, pack-folded}

mod_below : (n m l : ℕ) → l ≤ m → n % 2 ^ m % 2 ^ l ≡ n % 2 ^ l
mod_below n m l h =
    let e : m - l + l ≡ m = omega arith in subst (λ (x : ℕ). n % 2 ^ x % 2 ^ l ≡ n % 2 ^ l) e (mod-mod-pow n (m - l) l)

-- ---- the l lowest

thirds-mod : (n l word : ℕ) → l ≤ n → thirds n word % 2 ^ l ≡ thirds l word
unfolding thirds
thirds-mod n zero word h = mod-one (thirds n word)
thirds-mod zero (suc l) word h = absurd (not-suc-le-zero h)
thirds-mod (suc n) (suc l) word h =
    let m = thirds n (word / 8) * 2 + word % 2 in
    let d : word % 2 < 2 = mod-lt word (zero-lt-suc 1) in
    ap (λ (x : ℕ). m % x) (pow-suc 2 l) ∙ mod-mul m (pow_pos l) (zero-lt-suc 1)
    ∙ ap₂ (λ (x y : ℕ). x % 2 ^ l * 2 + y) (digits_div (thirds n (word / 8)) d) (digits_mod (thirds n (word / 8)) d)
    ∙ ap (λ (x : ℕ). x * 2 + word % 2) (thirds-mod n l (word / 8) (le_of_suc-le-suc h))

pub thirds-lt : (n word : ℕ) → thirds n word < 2 ^ n
thirds-lt n word = subst (λ (x : ℕ). x < 2 ^ n) (thirds-mod n n word (omega arith)) (mod-lt (thirds n word) (pow_pos n))

pack-thirds : (n word : ℕ) → pack 2 n word ≡ thirds n word
unfolding pack thirds
pack-thirds zero word = refl
pack-thirds (suc n) word = ap (λ (x : ℕ). x * 2 + word % 2) (pack-thirds n (word / 8))

pack_one : (p word : ℕ) → pack p 1 word ≡ word % p
unfolding pack
pack_one p word = omega arith

-- ---- the three folds

module _ (bits : ℕ) where
  abbrev pub ones : ℕ
  ones = bit_and bits 0x9249_2492_4924_9249

  abbrev pub threes : ℕ
  threes = bit_and (folded 2 ones) 0x01C0_E070_381C_0E07

  abbrev pub nines : ℕ
  nines = bit_and (folded 8 threes) 0x7FC0_000F_F800_01FF

  -- 27 bits, of which the masks keep 21
  of_ones : pack 8 9 (folded 2 ones) ≡ thirds 27 bits % 2 ^ 22
  unfolding pack sparse thrice
  of_ones =
      sym (pack-folded 1 9 ones (sparse-masked 1 27 bits 0x9249_2492_4924_9249 tt))
      ∙ pack-masked 1 27 bits 0x9249_2492_4924_9249 ∙ and_mask (pack 2 27 bits) 22 ∙ ap (λ (x : ℕ). x % 2 ^ 22) (pack-thirds 27 bits)

  of-threes : pack 512 3 (folded 8 threes) ≡ thirds 27 bits % 2 ^ 22 % 2 ^ 21
  unfolding pack sparse thrice
  of-threes =
      sym (pack-folded 3 3 threes (sparse-masked 3 9 (folded 2 ones) 0x01C0_E070_381C_0E07 tt))
      ∙ pack-masked 3 9 (folded 2 ones) 0x01C0_E070_381C_0E07 ∙ and_mask (pack 8 9 (folded 2 ones)) 21 ∙ ap (λ (x : ℕ). x % 2 ^ 21) of_ones

  nines-masked : pack 512 3 nines ≡ bit_and (pack 512 3 (folded 8 threes)) (2 ^ 27 - 1)
  unfolding pack
  nines-masked = pack-masked 9 3 (folded 8 threes) 0x7FC0_000F_F800_01FF

  of-nines : folded 512 nines % 2 ^ 27 ≡ thirds 27 bits % 2 ^ 22 % 2 ^ 21 % 2 ^ 27
  unfolding sparse thrice
  of-nines =
      sym (pack_one (2 ^ 27) (folded 512 nines))
      ∙ sym (pack-folded 9 1 nines (sparse-masked 9 3 (folded 8 threes) 0x7FC0_000F_F800_01FF tt))
      ∙ nines-masked ∙ and_mask (pack 512 3 (folded 8 threes)) 27 ∙ ap (λ (x : ℕ). x % 2 ^ 27) of-threes

  pub folds : (level : ℕ) → level ≤ 21 → bit_and (folded 512 nines) (2 ^ level - 1) ≡ thirds level bits
  folds level h =
      and_mask (folded 512 nines) level
      ∙ sym (mod_below (folded 512 nines) 27 level (omega arith))
      ∙ ap (λ (x : ℕ). x % 2 ^ level) of-nines
      ∙ mod_below (thirds 27 bits % 2 ^ 22 % 2 ^ 21) 27 level (omega arith)
      ∙ mod_below (thirds 27 bits % 2 ^ 22) 21 level h
      ∙ mod_below (thirds 27 bits) 22 level (omega arith)
      ∙ thirds-mod 27 level bits (omega arith)

-- ---- the coordinate of a key's cell

width-ge : (axis : Axis) → 21 ≤ width axis
width-ge X = lit≤ tt
width-ge Y = lit≤ tt
width-ge Z = lit≤ tt

-- as `center` hands it over: the word that begins with the axis, and the level
pub center-on-axis : (axis : Axis) (key word level : ℕ) → word ≡ key / 2 ^ place axis → level ≡ level_in key → center_at (thirds level word) level ≡ center_on axis key
center-on-axis axis key word level e h =
    ap₂ (λ (w l : ℕ). center_at (thirds l w) l) e h
    ∙ ap (λ (b : ℕ). center_at b (level_in key)) (sym (thirds-mod (width axis) (level_in key) (key / 2 ^ place axis) (le_trans (level_in_le key) (width-ge axis))))
