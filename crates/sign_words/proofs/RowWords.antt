-- The words of a row: the one that the code chooses is the defined one, one word more, and a row among the samples of a grid.
use mathlib.Core.Path.{◌≡◌, sym, ◌∙◌, ap}
use mathlib.Core.Bool.{Bool, false, ◌&&◌}
use mathlib.Core.List.{List}
use Prim.Native.Nat.{ℕ, ◌+◌, ◌*◌, ◌-◌, ◌/◌, ◌%◌, ◌^◌, ◌≤◌, ◌<◌}
use native.Mathlib.Nat.{le_trans, mul-le-mul_right, mul-le-mul_left}
use native.Mathlib.Decide.{dec_lt}
use native.Mathlib.Omega.{arith}
use lib.Dec.{ltb}
use lib.ListN.{get_or, length, set, take, drop}
use lib.Seq.{get_or-set_same, get_or-set_other}
use lib.Bits.{bit_or}
use lib.Ieee.{Float, nan}
use mir.Val.{bool_byte}
use Rattle.std.proofs.lemmas.List.{length-drop, length-take-le, get_or-take, get_or-drop}
use borrow.Author.Tests.{lt-ltb, le-ltb}
use Rattle.marching_cubes_impl.specs.Sample.{inside}
use Rattle.lent_mesh.specs.Grid.{inside_of}
use Rattle.lent_mesh.proofs.Places.{in-row-lt}
use Rattle.sign_words.specs.Words.{word_of, sign_word, word_from, inside_row, WordsFilled, RowFilled}
use Rattle.sign_words.proofs.Words.{word_of-turn, word_of-same, word_of-top}

-- ---- a turn of the loop of `part_word`

pub sign-turn : (samples : List Float) (i word one : ℕ) (sign : Bool) → i < 32 → word ≡ sign_word samples i → one ≡ bool_byte sign
    → sign ≡ inside (get_or samples i nan) → bit_or word (one * 2 ^ i % 2 ^ 32) ≡ sign_word samples (i + 1)
sign-turn samples i word one sign h e o s =
    ap (λ (x : ℕ). bit_or word (x * 2 ^ i % 2 ^ 32)) (o ∙ ap bool_byte s) ∙ word_of-turn (λ j. inside (get_or samples j nan)) i word h e

-- ---- one word

-- the samples of a part, and those among which they stand
in_samples : (samples : List Float) (start n i : ℕ) → i < n → get_or (take n (drop start samples)) i nan ≡ get_or samples (start + i) nan
in_samples samples start n i h = get_or-take n (drop start samples) i nan h ∙ get_or-drop start samples i nan

module _ (row : List Float) (k : ℕ) where
  abbrev known : ℕ → Bool
  known i = ltb (32 * k + i) (length row) && inside (get_or row (32 * k + i) nan)

  -- from word k on
  abbrev rest : List Float
  rest = take (length row - 32 * k) (drop (32 * k) row)

  in_row : (i : ℕ) → 32 * k + i < length row → inside (get_or rest i nan) ≡ known i
  in_row i h =
      ap inside (in_samples row (32 * k) (length row - 32 * k) i (omega arith))
      ∙ ap (λ (b : Bool). b && inside (get_or row (32 * k + i) nan)) (sym (lt-ltb (32 * k + i) (length row) h))

  past_row : (i : ℕ) → length row ≤ 32 * k + i → known i ≡ false
  past_row i h = ap (λ (b : Bool). b && inside (get_or row (32 * k + i) nan)) (le-ltb (32 * k + i) (length row) h)

  pub word_from-whole : 32 * k + 32 ≤ length row → sign_word rest 32 ≡ word_from row k
  word_from-whole h = word_of-same (λ i. inside (get_or rest i nan)) known 32 (λ i l. in_row i (omega arith))

  pub word_from-part : 32 * k < length row → length row < 32 * k + 32 → sign_word rest (length rest) ≡ word_from row k
  word_from-part h l =
      let count : ℕ = length row - 32 * k in
      let few : length rest ≡ count = length-take-le count (drop (32 * k) row) (omega (arith, length-drop (32 * k) row)) in
      let all : count + (32 - count) ≡ 32 = omega arith in
      ap (sign_word rest) few
      ∙ word_of-same (λ i. inside (get_or rest i nan)) known count (λ i m. in_row i (omega arith))
      ∙ sym (word_of-top known count (32 - count) (λ i a b. past_row i (omega arith)))
      ∙ ap (word_of known) all

  pub word_from-past : length row ≤ 32 * k → 0 ≡ word_from row k
  unfolding word_of
  word_from-past h = sym (word_of-top known 0 32 (λ i a b. past_row i (omega arith)))

-- ---- the four words of a row, and the rows of a layer

module _ (row : List Float) where
  pub row-suc : (y from k word : ℕ) (before after : List ℕ) → y < 128 → from ≤ k → k < 4 → length after ≡ 513 → WordsFilled row y from k before after
      → word ≡ word_from row k → WordsFilled row y from (k + 1) before (set after (4 * y + k) word)
  row-suc y from k word before after hy hf hk long begun e =
      record {
        words = λ j h l.
            elim (dec_lt j k) [
              | yes m ↦ get_or-set_other after (4 * y + k) (4 * y + j) word 0 (λ q. omega (arith, q)) ∙ begun.words j h m
              | no m ↦
                  let q : j ≡ k = omega arith in
                  rw q (get_or-set_same after (4 * y + k) word 0 (omega arith) ∙ e)
            ];
        kept = λ i l. get_or-set_other after (4 * y + k) i word 0 (λ q. omega (arith, q)) ∙ begun.kept i l;
      }

-- ---- the row that stands among the samples of a grid

module _ (n : ℕ) (samples : List Float) (z y count : ℕ) (whole : count ≡ n) (there : (z * n + y) * n + n ≤ length samples) where
  abbrev here : List Float
  here = take count (drop ((z * n + y) * n) samples)

  here-length : length here ≡ n
  here-length =
      length-take-le count (drop ((z * n + y) * n) samples) (omega (arith, whole, there, length-drop ((z * n + y) * n) samples)) ∙ whole

  here-is : (x : ℕ) → (ltb x (length here) && inside (get_or here x nan)) ≡ inside_row n samples y z x
  here-is x =
      ap (λ (m : ℕ). ltb x m && inside (get_or here x nan)) here-length
      ∙ elim (dec_lt x n) [
        | yes l ↦ ap (λ (v : Float). ltb x n && inside v) (in_samples samples ((z * n + y) * n) count x (omega (arith, whole)))
        | no l ↦
            let past : ltb x n ≡ false = le-ltb x n (omega arith) in
            ap (λ (b : Bool). b && inside (get_or here x nan)) past ∙ sym (ap (λ (b : Bool). b && inside_of n samples x y z) past)
      ]

  here-word : (k : ℕ) → word_from here k ≡ word_of (λ i. inside_row n samples y z (32 * k + i)) 32
  here-word k = word_of-same _ _ 32 (λ i h. here-is (32 * k + i))

  -- the whole words, then the others
  pub row-filled : (before between after : List ℕ) → WordsFilled here y 0 (length here / 32) before between → WordsFilled here y (length here / 32) 4 between after
      → RowFilled n samples y z before after
  row-filled before between after first second = (
    λ k h.
        elim (dec_lt k (length here / 32)) [
          | yes l ↦ second.kept (4 * y + k) (omega arith) ∙ first.words k (omega arith) l ∙ here-word k
          | no l ↦ second.words k (omega arith) h ∙ here-word k
        ],
    λ i l. second.kept i (omega arith) ∙ first.kept i (omega arith),
  )

-- rows below y are filled
abbrev pub RowsFilled : ℕ → List Float → ℕ → ℕ → List ℕ → Type 0
RowsFilled n samples z y words = (j k : ℕ) → j < y → k < 4 → get_or words (4 * j + k) 0 ≡ word_of (λ i. inside_row n samples j z (32 * k + i)) 32

-- ---- places

-- a row of samples starts where there is room for it
pub row_within : (n y z : ℕ) → y < n → (z * n + y) * n + n ≤ n * n * (z + 1)
row_within n y z h =
    let a : z * n + y < (z + 1) * n = in-row-lt n (z + 1) z y h (omega arith) in
    let b : (z * n + y + 1) * n ≤ (z + 1) * n * n = mul-le-mul_right n (let c : z * n + y + 1 ≤ (z + 1) * n = omega arith in c) in
    omega arith

-- the first planes of a whole grid
pub planes-le : (n planes samples : ℕ) → planes ≤ n + 1 → n * n * (n + 1) ≤ samples → n * n * planes ≤ samples
planes-le n planes samples h l = le_trans (mul-le-mul_left (n * n) h) l
