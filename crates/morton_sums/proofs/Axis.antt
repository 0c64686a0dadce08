-- The three axes of a word as `Carry` walks them, and what `sum` and `difference` compute on one axis. One law over the axis for each.
use Rattle.std.proofs.Common.{◌≡◌, ℕ, zero, suc, ◌+◌, ◌-◌, ◌*◌, ◌/◌, ◌%◌, ◌^◌, ◌<◌, sym, refl, ap, ◌∙◌, ap₂, zero-le, le_refl, lt_of_le_of_lt, add-zero, mod-eq_of_lt, add-one, arith, lit<}
use lib.Pow.{field, mod-mod-pow}
use lib.Bits.{bit_and, bit_or, and_mod, and_le_r, or_disjoint}
use Rattle.morton_sums.specs.Interleaved.{thirds, spread, Axis, X, Y, Z, place, width, on_axis, along, interleave}
use Rattle.morton_sums.proofs.Digits.{apart-masked, apart-joined}
use Rattle.morton_sums.proofs.Carry.{own, others, gather, scatter, range, sum-in, complement-word, complement-number}

-- ---- groups of three bits

-- g groups above r bits
threes : ℕ → ℕ → ℕ
threes r zero = r
threes r (suc g) = suc (suc (suc (threes r g)))

eighth : (n : ℕ) → n / 2 / 2 / 2 ≡ n / 8
eighth n = omega arith

module _ (r : ℕ) where
  gather-threes : ((word : ℕ) → gather r 2 word ≡ 0) → (g word : ℕ) → gather (threes (suc r) g) 0 word ≡ thirds (suc g) word
  unfolding gather thirds threes
  gather-threes none zero word = ap (λ (x : ℕ). x * 2 + word % 2) (none (word / 2))
  gather-threes none (suc g) word =
      ap (λ (x : ℕ). x * 2 + word % 2) (gather-threes none g (word / 2 / 2 / 2) ∙ ap (thirds (suc g)) (eighth word))

  scatter-threes : ((number : ℕ) → scatter r 2 number ≡ 0) → (g number : ℕ) → scatter (threes (suc r) g) 0 number ≡ spread (suc g) number
  unfolding scatter spread threes
  scatter-threes none zero number = ap (λ (x : ℕ). x * 2 + number % 2) (none (number / 2))
  scatter-threes none (suc g) number =
      ap (λ (x : ℕ). x * 2 * 2 * 2 + number % 2) (scatter-threes none g (number / 2)) ∙ omega arith

-- ---- the axes

gather-axis : (axis : Axis) (word : ℕ) → gather 64 (place axis) word ≡ on_axis axis word
unfolding gather threes
gather-axis X word = gather-threes 0 (λ w. refl) 21 word ∙ ap (thirds 22) (omega arith)
gather-axis Y word = gather-threes 2 (λ w. refl) 20 (word / 2)
gather-axis Z word = gather-threes 1 (λ w. refl) 20 (word / 2 / 2) ∙ ap (thirds 21) (omega arith)

scatter-axis : (axis : Axis) (number : ℕ) → scatter 64 (place axis) number ≡ along axis number
unfolding scatter threes
scatter-axis X number = scatter-threes 0 (λ w. refl) 21 number ∙ omega arith
scatter-axis Y number = ap (λ (x : ℕ). x * 2) (scatter-threes 2 (λ w. refl) 20 number)
scatter-axis Z number = ap (λ (x : ℕ). x * 2 * 2) (scatter-threes 1 (λ w. refl) 20 number) ∙ omega arith

range-axis : (axis : Axis) → range 64 (place axis) ≡ 2 ^ width axis
unfolding range
range-axis X = refl
range-axis Y = refl
range-axis Z = refl

opposite : (axis : Axis) (n b : ℕ) → suc (n + b) ≡ 2 ^ 64 → suc (on_axis axis n + on_axis axis b) ≡ 2 ^ width axis
opposite axis n b h =
    ap₂ (λ (x y : ℕ). suc (x + y)) (sym (gather-axis axis n)) (sym (gather-axis axis b))
    ∙ complement-number 64 (place axis) n b h ∙ range-axis axis

own-lt : (axis : Axis) → own 64 (place axis) < 2 ^ 64
unfolding own
own-lt X = lit< tt
own-lt Y = lit< tt
own-lt Z = lit< tt

-- ---- what does not show in an answer

-- bits above those of a mask
masked-wrap : (word m : ℕ) → m < 2 ^ 64 → bit_and (word % 2 ^ 64) m ≡ bit_and word m
masked-wrap word m h =
    ap (bit_and (word % 2 ^ 64)) (sym (mod-eq_of_lt h)) ∙ sym (and_mod word m 64)
    ∙ mod-eq_of_lt (lt_of_le_of_lt (and_le_r word m) h)

-- bits of a number above those of its axis
spread-mod : (w n : ℕ) → spread w (n % 2 ^ w) ≡ spread w n
unfolding spread
spread-mod zero n = refl
spread-mod (suc w) n =
    ap (λ (x : ℕ). spread (suc w) (n % 2 ^ x)) (sym (add-one w))
    ∙ ap₂ (λ (x y : ℕ). spread w x * 8 + y) (field n w 1) (mod-mod-pow n w 1)
    ∙ ap (λ (x : ℕ). x * 8 + n % 2) (spread-mod w (n / 2))

-- ---- sum and difference

wrapped : (r b f a : ℕ) → r < 2 ^ 64 → a < 2 ^ 64 → suc (f + b) ≡ 2 ^ 64 → (r + b) % 2 ^ 64 ≡ a → r ≡ (f + a + 1) % 2 ^ 64
wrapped r b f a h l e d = omega arith

turned : (n a b w : ℕ) → suc (n + b) ≡ w → n + a + 1 ≡ a + w - b
turned n a b w h = omega arith

module _ (axis : Axis) (a b : ℕ) where
  abbrev mask : ℕ
  mask = own 64 (place axis)

  abbrev rest : ℕ
  rest = others 64 (place axis)

  answered : (number : ℕ) → scatter 64 (place axis) number ≡ along axis (number % 2 ^ width axis)
  answered number = scatter-axis axis number ∙ ap (λ (x : ℕ). x * 2 ^ place axis) (sym (spread-mod (width axis) number))

  pub sum-on : bit_and ((bit_or a rest + bit_and b mask) % 2 ^ 64) mask ≡ along axis ((on_axis axis a + on_axis axis b) % 2 ^ width axis)
  sum-on =
      masked-wrap (bit_or a rest + bit_and b mask) mask (own-lt axis)
      ∙ ap (λ (x : ℕ). bit_and x mask) (sym (add-zero (bit_or a rest + bit_and b mask)))
      ∙ sum-in 64 (place axis) a b 0 zero-le
      ∙ ap (scatter 64 (place axis)) (add-zero _ ∙ ap₂ (λ (x y : ℕ). x + y) (gather-axis axis a) (gather-axis axis b))
      ∙ answered (on_axis axis a + on_axis axis b)

  -- r is the wrapped difference of the words under the mask
  pub difference-on : (r : ℕ) → r < 2 ^ 64 → b < 2 ^ 64 → (r + bit_and b mask) % 2 ^ 64 ≡ bit_and a mask
      → bit_and r mask ≡ along axis ((on_axis axis a + 2 ^ width axis - on_axis axis b) % 2 ^ width axis)
  difference-on r h l d =
      let n = 2 ^ 64 - 1 - b in
      let whole : suc (n + b) ≡ 2 ^ 64 = omega arith in
      let f = bit_or n rest in
      ap (λ (x : ℕ). bit_and x mask)
      (wrapped r (bit_and b mask) f (bit_and a mask) h (lt_of_le_of_lt (and_le_r a mask) (own-lt axis)) (complement-word 64 (place axis) n b whole) d)
      ∙ masked-wrap (f + bit_and a mask + 1) mask (own-lt axis)
      ∙ sum-in 64 (place axis) n a 1 (le_refl 1)
      ∙ ap (scatter 64 (place axis))
      (ap₂ (λ (x y : ℕ). x + y + 1) (gather-axis axis n) (gather-axis axis a)
      ∙ turned (on_axis axis n) (on_axis axis a) (on_axis axis b) (2 ^ width axis) (opposite axis n b whole))
      ∙ answered (on_axis axis a + 2 ^ width axis - on_axis axis b)

-- ---- the three together

no-bit-shared : (bit_and (own 64 2) (own 64 1) ≡ 0) × (bit_and (own 64 2) (own 64 0) ≡ 0) × (bit_and (own 64 1) (own 64 0) ≡ 0)
unfolding own
no-bit-shared = (refl, refl, refl)

-- what is under the three masks joins without a carry
pub joined : (z y x : ℕ) (numbers : Axis → ℕ)
    → bit_and z (own 64 2) ≡ along Z (numbers Z)
    → bit_and y (own 64 1) ≡ along Y (numbers Y)
    → bit_and x (own 64 0) ≡ along X (numbers X)
    → bit_or (bit_or (bit_and z (own 64 2)) (bit_and y (own 64 1))) (bit_and x (own 64 0)) ≡ interleave numbers
joined z y x numbers on-z on-y on-x =
    or_disjoint (bit_or (bit_and z (own 64 2)) (bit_and y (own 64 1))) (bit_and x (own 64 0))
    (apart-joined (bit_and x (own 64 0)) (bit_and z (own 64 2)) (bit_and y (own 64 1))
    (apart-masked (own 64 2) z x (own 64 0) no-bit-shared.1)
    (apart-masked (own 64 1) y x (own 64 0) no-bit-shared.2))
    ∙ ap (λ (w : ℕ). w + bit_and x (own 64 0))
    (or_disjoint (bit_and z (own 64 2)) (bit_and y (own 64 1)) (apart-masked (own 64 2) z y (own 64 1) no-bit-shared.0))
    ∙ rw (on-z, on-y, on-x)
