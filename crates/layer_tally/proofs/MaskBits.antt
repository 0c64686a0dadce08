-- The bits of the words that the count is made with: those that stand for cells, and those of the first cells of the rows.
use mathlib.Core.Path.{◌≡◌, refl, sym, ◌∙◌, ap, subst}
use mathlib.Core.Bool.{Bool, true, false}
use mathlib.Core.List.{List}
use Prim.Native.Nat.{ℕ, zero, suc, ◌+◌, ◌*◌, ◌-◌, ◌/◌, ◌%◌, ◌^◌, ◌<◌}
use native.Mathlib.Nat.{div-eq_of_lt, pow-suc}
use native.Mathlib.Omega.{arith}
use native.Mathlib.Decide.{dec_lt}
use lib.Dec.{eqb, ltb}
use lib.ListN.{get_or, set, length}
use lib.Seq.{get_or-set_same, get_or-set_other}
use lib.Pow.{pow_pos}
use borrow.Author.Tests.{lt-ltb, le-ltb, ne_eqb}
use Rattle.marching_cubes_tables.specs.Rule.{bit_at}
use Rattle.walk.specs.Walk.{bit}
use Rattle.sign_words.specs.Words.{word_of}
use Rattle.sign_words.proofs.Words.{word_of-bit, word_of-of-bits, word_of-top}
use Rattle.sign_words.proofs.KeptBits.{every}
use Rattle.sign_cells.specs.Cells.{cells_in}
use Rattle.cell_tally.specs.Tally.{is_set}
use Rattle.cell_tally.proofs.SetBits.{bit-set}
use Rattle.layer_tally.specs.Layer.{Firsts}

pub is_set-of : (w i : ℕ) (p : Bool) → bit_at w i ≡ bit p → is_set w i ≡ p
is_set-of w i p e = ap (λ (x : ℕ). eqb x 1) e ∙ bit-set p

-- ---- the cells of a word

pub every_set : (j : ℕ) → j < 32 → is_set 0xFFFF_FFFF j ≡ true
every_set j h = is_set-of 0xFFFF_FFFF j true (ap (λ (w : ℕ). bit_at w j) (sym every) ∙ word_of-bit (λ i. true) 32 j h)

module _ (n k : ℕ) where
  abbrev is_cell : ℕ → Bool
  is_cell j = ltb (32 * k + j + 1) n

  cells : 0xFFFF_FFFF % 2 ^ cells_in n k ≡ word_of is_cell 32
  cells =
      let some : 0xFFFF_FFFF % 2 ^ cells_in n k ≡ word_of is_cell (cells_in n k) =
      word_of-of-bits 0xFFFF_FFFF (cells_in n k) is_cell
      (λ i l.
      ap (λ (w : ℕ). bit_at w i) (sym every)
      ∙ word_of-bit (λ j. true) 32 i (omega arith)
      ∙ ap bit (sym (lt-ltb (32 * k + i + 1) n (omega arith)))) in
      let rest : word_of is_cell (cells_in n k + (32 - cells_in n k)) ≡ word_of is_cell (cells_in n k) =
      word_of-top is_cell (cells_in n k) (32 - cells_in n k) (λ i a b. le-ltb (32 * k + i + 1) n (omega arith)) in
      let all : cells_in n k + (32 - cells_in n k) ≡ 32 = omega arith in
      some ∙ sym rest ∙ ap (word_of is_cell) all

  pub mask-bits : (r : ℕ) → r ≡ 0xFFFF_FFFF % 2 ^ cells_in n k → (j : ℕ) → j < 32 → is_set r j ≡ ltb (32 * k + j + 1) n
  mask-bits r e j h = is_set-of r j (is_cell j) (ap (λ (w : ℕ). bit_at w j) (e ∙ cells) ∙ word_of-bit is_cell 32 j h)

-- the first words are made
abbrev pub MasksMade : ℕ → ℕ → List ℕ → Type 0
MasksMade n made all = (i j : ℕ) → i < made → j < 32 → is_set (get_or all i 0) j ≡ ltb (32 * (i % 4) + j + 1) n

pub masks-turn : (n i new : ℕ) (all : List ℕ) → length all ≡ 513 → i < 512 → MasksMade n i all
    → ((j : ℕ) → j < 32 → is_set new j ≡ ltb (32 * (i % 4) + j + 1) n) → MasksMade n (i + 1) (set all i new)
masks-turn n i new all len h before one k j l in-word =
    elim (dec_lt k i) [
      | yes lt ↦ ap (λ (w : ℕ). is_set w j) (get_or-set_other all i k new 0 (λ q. omega (arith, q))) ∙ before k j lt in-word
      | no ge ↦
          let q : k ≡ i = omega arith in
          subst (λ (m : ℕ). is_set (get_or (set all i new) m 0) j ≡ ltb (32 * (m % 4) + j + 1) n) (sym q)
          (ap (λ (w : ℕ). is_set w j) (get_or-set_same all i new 0 (omega arith)) ∙ one j in-word)
    ]

-- ---- the first cells

-- those of the first rows are set, and no other word has a bit
abbrev pub FirstsMade : ℕ → List ℕ → Type 0
FirstsMade rows all = ((y : ℕ) → y < rows → get_or all (4 * y) 0 ≡ 1) × ((i : ℕ) → i < 513 → 0 < i % 4 → get_or all i 0 ≡ 0)

pub firsts-turn : (y : ℕ) (all : List ℕ) → length all ≡ 513 → y < 128 → FirstsMade y all → FirstsMade (y + 1) (set all (4 * y) 1)
firsts-turn y all len h before = (
  λ k l.
      elim (dec_lt k y) [
        | yes lt ↦ get_or-set_other all (4 * y) (4 * k) 1 0 (λ q. omega (arith, q)) ∙ before.0 k lt
        | no ge ↦
            let q : k ≡ y = omega arith in
            subst (λ (m : ℕ). get_or (set all (4 * y) 1) (4 * m) 0 ≡ 1) (sym q) (get_or-set_same all (4 * y) 1 0 (omega arith))
      ],
  λ i l m. get_or-set_other all (4 * y) i 1 0 (λ q. omega (arith, q)) ∙ before.1 i l m,
)

one_set : (j : ℕ) → is_set 1 j ≡ eqb j 0
one_set zero = refl
one_set (suc j) =
    let above : 1 < 2 ^ suc j = omega (arith, pow-suc 2 j, pow_pos j) in
    is_set-of 1 (suc j) false (ap (λ (x : ℕ). x % 2) (div-eq_of_lt above)) ∙ sym (ne_eqb (suc j) 0 (λ q. omega (arith, q)))

pub none-set : (j : ℕ) → is_set 0 j ≡ false
none-set j = is_set-of 0 j false (ap (λ (x : ℕ). x % 2) (div-eq_of_lt (pow_pos j)))

pub firsts-all : (all : List ℕ) → FirstsMade 128 all → Firsts all
firsts-all all made i j h in-word =
    elim (dec_lt 0 (i % 4)) [
      | yes lt ↦
          ap (λ (w : ℕ). is_set w j) (made.1 i (omega arith) lt)
          ∙ none-set j
          ∙ sym (ne_eqb (32 * (i % 4) + j) 0 (λ q. omega (arith, q)))
      | no ge ↦
          let row : i ≡ 4 * (i / 4) = omega arith in
          let place : j ≡ 32 * (i % 4) + j = omega arith in
          ap (λ (w : ℕ). is_set w j) (ap (λ (m : ℕ). get_or all m 0) row ∙ made.0 (i / 4) (omega arith))
          ∙ one_set j
          ∙ ap (λ (x : ℕ). eqb x 0) place
    ]
