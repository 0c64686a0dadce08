-- The half-size and the center of a cell are numbers of f32, and the Rust's float operations give them without rounding.
use mathlib.Core.Path.{◌≡◌, refl, sym, ap, ap₂, ◌∙◌, subst}
use mathlib.Core.Bool.{Bool, false, ◌&&◌}
use Prim.Native.Nat.{ℕ, zero, suc, ◌+◌, ◌-◌, ◌*◌, ◌%◌, ◌^◌, ◌≤◌, ◌<◌}
use native.Mathlib.Nat.{lt_of_lt_of_le, mul_assoc, mul_left_comm, one-mul, mul-one, mul-pos, pow-suc, pow-succ', le_of_lt}
use native.Mathlib.Omega.{arith}
use lib.Dec.{T, eqb, ltb, leb, eqb→eq, lt→ltb, lit≤}
use lib.IntN.{ℤ, pos, negsuc}
use lib.Pow.{pow-add, pow_pos, pow_mono, pow-lt, shl_lt}
use lib.Ieee.{Float, fin, binary32, up, down, round, sum, add, mul, div, of_int, of_bits, fits, nan, inf}
use lib.Ieee.Fits.{and_l, down_pos, add-fits, div-fits, of_int-fits}
use lib.Ieee.Exact.{HasValue, round_exact}
use lib.Ieee.Scale.{round_same}
use lib.Ieee.Back.{round_whole, whole_unique}
use Rattle.morton_cells.specs.Cell.{half_size_at, center_at}

-- ---- an odd number over a power of two is written in one way

even_odd : (m t : ℕ) → m % 2 ≡ 1 → m ≡ 2 * t → ⊥
even_odd m t o h = omega arith

doubled : (m k : ℕ) → m * 2 ^ suc k ≡ 2 * (m * 2 ^ k)
doubled m k = ap (λ (x : ℕ). m * x) (pow-succ' 2 k) ∙ mul_left_comm m 2 (2 ^ k)

halved : (x y : ℕ) → 2 * x ≡ 2 * y → x ≡ y
halved x y h = omega arith

odd-parts : (m n a b : ℕ) → m % 2 ≡ 1 → n % 2 ≡ 1 → m * 2 ^ a ≡ n * 2 ^ b → (m ≡ n) × (a ≡ b)
odd-parts m n zero zero o p h = (omega arith, refl)
odd-parts m n zero (suc b) o p h = absurd (even_odd m (n * 2 ^ b) o (sym (mul-one m) ∙ h ∙ doubled n b))
odd-parts m n (suc a) zero o p h = absurd (even_odd n (m * 2 ^ a) p (sym (mul-one n) ∙ sym h ∙ doubled m a))
odd-parts m n (suc a) (suc b) o p h =
    let r = odd-parts m n a b o p (halved (m * 2 ^ a) (n * 2 ^ b) (sym (doubled m a) ∙ h ∙ doubled n b)) in (r.0, ap suc r.1)

fits-odd : (s : Bool) (m : ℕ) (e : ℤ) → T (fits binary32 (fin s (suc m) e)) → suc m % 2 ≡ 1
unfolding fits
fits-odd s m e t =
    let a = eqb (suc m % 2) 1 in
    let b = ltb (suc m) (2 ^ 24) in
    let c = leb (down e) (2 ^ 149) in
    eqb→eq (suc m % 2) 1 (and_l a b (and_l (a && b) c (and_l (a && b && c) (ltb (suc m * up e) (2 ^ 128 * down e)) t)))

twice-odd : (b : ℕ) → (2 * b + 1) % 2 ≡ 1
twice-odd b = omega arith

none_above : (x : ℕ) → 0 < x → 0 ≡ x → ⊥
none_above x h e = omega arith

value-unique : (x : Float) (b l : ℕ) → T (fits binary32 x) → HasValue x false (2 * b + 1) (2 ^ suc l) → x ≡ fin false (2 * b + 1) (negsuc l)
value-unique (fin s zero e) b l t v = absurd (none_above ((2 * b + 1) * down e) (mul-pos (omega arith) (down_pos e)) (omega (arith, v.1)))
value-unique (fin s (suc m) (pos a)) b l t v =
    absurd (even_odd (2 * b + 1) (suc m * 2 ^ a * 2 ^ l) (twice-odd b) (sym (mul-one (2 * b + 1)) ∙ sym v.1 ∙ doubled (suc m * 2 ^ a) l))
value-unique nan b l t v = elim v [ ]
value-unique (inf _) b l t v = elim v [ ]
value-unique (fin s (suc m) (negsuc a)) b l t v =
    let r = odd-parts (suc m) (2 * b + 1) (suc l) (suc a) (fits-odd s m (negsuc a) t) (twice-odd b) (ap (λ (x : ℕ). x * 2 ^ suc l) (sym (mul-one (suc m))) ∙ v.1) in
    λ i. fin (v.0 i) (r.0 i) (negsuc (down-one r.1 i))
  where
    down-one : {j k : ℕ} → suc j ≡ suc k → k ≡ j
    down-one h = omega arith

-- ---- operations on numbers a / c that are not negative, where r / 2 ^ l is the exact result and f32 holds it

held : (r l : ℕ) → r < 2 ^ 24 → l ≤ 149 → HasValue (round binary32 false r (2 ^ l)) false r (2 ^ l)
held r l h m =
    let e : 149 - l + l ≡ 149 = omega arith in
    round_exact binary32 false r (2 ^ l) r (149 - l) (pow_pos l) h
    (lt_of_lt_of_le (shl_lt 24 (149 - l) h) (pow_mono {j = 277} (omega arith)))
    (ap (λ (x : ℕ). r * x) (ap (λ (x : ℕ). 2 ^ x) (sym e) ∙ pow-add 2 (149 - l) l) ∙ sym (mul_assoc r (2 ^ (149 - l)) (2 ^ l)))

mul-cross : (x y c d a b p q : ℕ) → x * c ≡ a * p → y * d ≡ b * q → x * y * (c * d) ≡ a * b * (p * q)
mul-cross x y c d a b p q h k = regroup x y c d ∙ ap₂ (λ (s t : ℕ). s * t) h k ∙ sym (regroup a b p q)
  where
    regroup : (x y c d : ℕ) → x * y * (c * d) ≡ x * c * (y * d)
    regroup x y c d = omega arith

add-cross : (x y c d a b p q : ℕ) → x * c ≡ a * p → y * d ≡ b * q → (x * q + y * p) * (c * d) ≡ (a * d + b * c) * (p * q)
add-cross x y c d a b p q h k = regroup x y c d p q ∙ ap₂ (λ (s t : ℕ). s * (q * d) + t * (p * c)) h k ∙ again a b c d p q
  where
    regroup : (x y c d p q : ℕ) → (x * q + y * p) * (c * d) ≡ x * c * (q * d) + y * d * (p * c)
    regroup x y c d p q = omega arith

    again : (a b c d p q : ℕ) → a * p * (q * d) + b * q * (p * c) ≡ (a * d + b * c) * (p * q)
    again a b c d p q = omega arith

module _ (r l : ℕ) (r-lt : r < 2 ^ 24) (l_le : l ≤ 149) where
  rounded : (num den : ℕ) → 0 < den → num * 2 ^ l ≡ r * den → HasValue (round binary32 false num den) false r (2 ^ l)
  rounded num den h e =
      subst (λ (x : Float). HasValue x false r (2 ^ l)) (sym (round_same binary32 false num den r (2 ^ l) h (pow_pos l) e)) (held r l r-lt l_le)

  mul-exact : (x y : Float) (a c b d : ℕ) → 0 < c → 0 < d → HasValue x false a c → HasValue y false b d → a * b * 2 ^ l ≡ r * (c * d)
      → HasValue (mul binary32 x y) false r (2 ^ l)
  unfolding mul
  mul-exact (fin s m e) (fin t n g) a c b d hc hd v w h =
      let signs : mul binary32 (fin s m e) (fin t n g) ≡ round binary32 false (m * up e * (n * up g)) (down e * down g) =
      ap₂ (λ (i j : Bool). mul binary32 (fin i m e) (fin j n g)) v.0 w.0 in
      let same = round_same binary32 false (m * up e * (n * up g)) (down e * down g) (a * b) (c * d)
      (mul-pos (down_pos e) (down_pos g)) (mul-pos hc hd) (mul-cross (m * up e) (n * up g) c d a b (down e) (down g) v.1 w.1) in
      subst (λ (x : Float). HasValue x false r (2 ^ l)) (sym (signs ∙ same)) (rounded (a * b) (c * d) (mul-pos hc hd) h)
  mul-exact nan y a c b d hc hd v w h = elim v [ ]
  mul-exact (inf _) y a c b d hc hd v w h = elim v [ ]
  mul-exact (fin s m e) nan a c b d hc hd v w h = elim w [ ]
  mul-exact (fin s m e) (inf _) a c b d hc hd v w h = elim w [ ]

  add-exact : (x y : Float) (a c b d : ℕ) → 0 < c → 0 < d → HasValue x false a c → HasValue y false b d → (a * d + b * c) * 2 ^ l ≡ r * (c * d)
      → HasValue (add binary32 x y) false r (2 ^ l)
  unfolding add sum
  add-exact (fin s m e) (fin t n g) a c b d hc hd v w h =
      let signs : add binary32 (fin s m e) (fin t n g) ≡ round binary32 false (m * up e * down g + n * up g * down e) (down e * down g) =
      ap₂ (λ (i j : Bool). add binary32 (fin i m e) (fin j n g)) v.0 w.0 in
      let same = round_same binary32 false (m * up e * down g + n * up g * down e) (down e * down g) (a * d + b * c) (c * d)
      (mul-pos (down_pos e) (down_pos g)) (mul-pos hc hd) (add-cross (m * up e) (n * up g) c d a b (down e) (down g) v.1 w.1) in
      subst (λ (x : Float). HasValue x false r (2 ^ l)) (sym (signs ∙ same)) (rounded (a * d + b * c) (c * d) (mul-pos hc hd) h)
  add-exact nan y a c b d hc hd v w h = elim v [ ]
  add-exact (inf _) y a c b d hc hd v w h = elim v [ ]
  add-exact (fin s m e) nan a c b d hc hd v w h = elim w [ ]
  add-exact (fin s m e) (inf _) a c b d hc hd v w h = elim w [ ]

-- ---- the two answers

power-fits : (n : ℕ) → n ≤ 24 → T (fits binary32 (fin false 1 (pos n)))
unfolding fits
power-fits n h = lt→ltb (1 * 2 ^ n) (2 ^ 128) (subst (λ (x : ℕ). x < 2 ^ 128) (sym (one-mul (2 ^ n))) (pow-lt {j = 128} (omega arith)))

power-float : (n : ℕ) → n ≤ 24 → of_int binary32 (pos (2 ^ n)) ≡ fin false 1 (pos n)
unfolding of_int
power-float n h =
    whole_unique binary32 (round binary32 false (2 ^ n) 1) (fin false 1 (pos n)) false (2 ^ n) (of_int-fits binary32 (pos (2 ^ n))) (power-fits n h)
    (round_whole binary32 false (2 ^ n) (pow_mono h)) (refl, omega arith)

pub half-size-exact : (level : ℕ) → level ≤ 21 → div binary32 (of_bits binary32 0x3F80_0000) (of_int binary32 (pos (2 ^ suc level))) ≡ half_size_at level
unfolding div of_bits
half-size-exact level h =
    ap (div binary32 (fin false 1 (pos 0))) (power-float (suc level) (omega arith))
    ∙ value-unique (div binary32 (fin false 1 (pos 0)) (fin false 1 (pos (suc level)))) 0 level
    (div-fits binary32 (fin false 1 (pos 0)) (fin false 1 (pos (suc level))))
    (rounded 1 (suc level) (omega arith) (omega arith) 1 (1 * 2 ^ suc level * 1) (omega (arith, pow_pos (suc level))) (omega arith))

module _ (b level : ℕ) (level-le : level ≤ 21) (b_lt : b < 2 ^ level) where
  abbrev size : Float
  size = half_size_at level

  small : b < 2 ^ 21
  small = lt_of_lt_of_le b_lt (pow_mono level-le)

  two : HasValue (of_bits binary32 0x4000_0000) false 2 1
  unfolding of_bits
  two = (refl, refl)

  -- twice the half-size, 1 / 2 ^ level
  twice : HasValue (mul binary32 size (of_bits binary32 0x4000_0000)) false 1 (2 ^ level)
  twice =
      mul-exact 1 level (omega arith) (omega arith) size (of_bits binary32 0x4000_0000) 1 (2 ^ suc level) 2 1 (pow_pos (suc level)) (omega arith)
      (refl, refl) two (omega (arith, pow-suc 2 level))

  -- the low face, b / 2 ^ level
  face : HasValue (mul binary32 (of_int binary32 (pos b)) (mul binary32 size (of_bits binary32 0x4000_0000))) false b (2 ^ level)
  unfolding of_int
  face =
      mul-exact b level (lt_of_lt_of_le small (lit≤ tt)) (omega arith) (round binary32 false b 1) (mul binary32 size (of_bits binary32 0x4000_0000)) b 1 1 (2 ^ level)
      (omega arith) (pow_pos level) (round_whole binary32 false b (le_of_lt (lt_of_lt_of_le small (lit≤ tt)))) twice (omega arith)

  pub center-exact : add binary32 (mul binary32 (of_int binary32 (pos b)) (mul binary32 size (of_bits binary32 0x4000_0000))) size ≡ center_at b level
  center-exact =
      let low = mul binary32 (of_int binary32 (pos b)) (mul binary32 size (of_bits binary32 0x4000_0000)) in
      value-unique (add binary32 low size) b level (add-fits binary32 low size)
      (add-exact (2 * b + 1) (suc level) (omega (arith, small)) (omega arith) low size b (2 ^ level) 1 (2 ^ suc level) (pow_pos level) (pow_pos (suc level))
      face (refl, refl) (subst (λ (x : ℕ). (b * x + 1 * 2 ^ level) * x ≡ (2 * b + 1) * (2 ^ level * x)) (sym (pow-succ' 2 level)) (middle b (2 ^ level))))
    where
      middle : (b p : ℕ) → (b * (2 * p) + 1 * p) * (2 * p) ≡ (2 * b + 1) * (p * (2 * p))
      middle b p = omega arith

  -- both are numbers of f32
  pub center_at-fits : T (fits binary32 (center_at b level))
  center_at-fits = subst (λ (x : Float). T (fits binary32 x)) center-exact (add-fits binary32 _ size)

pub half_size_at-fits : (level : ℕ) → level ≤ 21 → T (fits binary32 (half_size_at level))
half_size_at-fits level h = subst (λ (x : Float). T (fits binary32 x)) (half-size-exact level h) (div-fits binary32 _ _)
