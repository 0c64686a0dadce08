-- The sign byte of a cell, bit by bit: bit c is set exactly where the corner c, by the table of corners, is inside.
use mathlib.Core.Path.{◌≡◌, refl, sym, ap, ◌∙◌}
use mathlib.Core.Bool.{Bool, true, false}
use mathlib.Core.List.{List, [], ◌∷◌, map}
use Prim.Native.Nat.{ℕ, zero, suc, ◌+◌, ◌*◌, ◌/◌, ◌%◌, ◌^◌, ◌<◌}
use native.Mathlib.Nat.{le_of_suc-le-suc, not-suc-le-zero, add-zero, two-pow-succ}
use native.Mathlib.Omega.{arith}
use lib.ListN.{length, get_or}
use lib.Pow.{shr-shr}
use Rattle.marching_cubes_tables.specs.Tables.{corners}
use Rattle.marching_cubes_tables.specs.Rule.{bit_at}
use Rattle.walk.specs.Walk.{Inside, bit, byte_of, corner_inside, signs}

bit-lt : (b : Bool) → bit b < 2
bit-lt true = omega arith
bit-lt false = omega arith

pub byte_of-lt : (bs : List Bool) → byte_of bs < 2 ^ length bs
byte_of-lt [] = omega arith
byte_of-lt (b ∷ bs) = let h = byte_of-lt bs in let l = bit-lt b in let e = two-pow-succ (length bs) in omega arith

byte_of-at : (bs : List Bool) (i : ℕ) → i < length bs → bit_at (byte_of bs) i ≡ bit (get_or bs i false)
byte_of-at [] i h = absurd (not-suc-le-zero h)
byte_of-at (b ∷ bs) zero h = let l = bit-lt b in omega arith
byte_of-at (b ∷ bs) (suc i) h =
    let l = bit-lt b in
    let half : (bit b + 2 * byte_of bs) / 2 ≡ byte_of bs = omega arith in
    let shift : (bit b + 2 * byte_of bs) / 2 ^ suc i ≡ byte_of bs / 2 ^ i =
    ap (λ (k : ℕ). (bit b + 2 * byte_of bs) / 2 ^ k) (let e : suc i ≡ 1 + i = omega arith in e)
    ∙ sym (shr-shr (bit b + 2 * byte_of bs) 1 i) ∙ ap (λ (s : ℕ). s / 2 ^ i) half in
    ap (λ (s : ℕ). s % 2) shift ∙ byte_of-at bs i (le_of_suc-le-suc h)

pub signs-lt : (g : Inside) (x y z : ℕ) → signs g x y z < 256
unfolding signs
signs-lt g x y z = byte_of-lt (map (corner_inside g x y z) (0 ∷ 1 ∷ 2 ∷ 3 ∷ 4 ∷ 5 ∷ 6 ∷ 7 ∷ []))

eight-at : (f : ℕ → Bool) (c : ℕ) → c < 8 → get_or (map f (0 ∷ 1 ∷ 2 ∷ 3 ∷ 4 ∷ 5 ∷ 6 ∷ 7 ∷ [])) c false ≡ f c
eight-at f zero h = refl
eight-at f (suc zero) h = refl
eight-at f (suc (suc zero)) h = refl
eight-at f (suc (suc (suc zero))) h = refl
eight-at f (suc (suc (suc (suc zero)))) h = refl
eight-at f (suc (suc (suc (suc (suc zero))))) h = refl
eight-at f (suc (suc (suc (suc (suc (suc zero)))))) h = refl
eight-at f (suc (suc (suc (suc (suc (suc (suc zero))))))) h = refl
eight-at f (suc (suc (suc (suc (suc (suc (suc (suc c)))))))) h = absurd (omega arith)

pub signs-corner : (g : Inside) (x y z c : ℕ) → c < 8 → bit_at (signs g x y z) c ≡ bit (corner_inside g x y z c)
unfolding signs
signs-corner g x y z c h = byte_of-at (map (corner_inside g x y z) (0 ∷ 1 ∷ 2 ∷ 3 ∷ 4 ∷ 5 ∷ 6 ∷ 7 ∷ [])) c h ∙ ap bit (eight-at (corner_inside g x y z) c h)

-- the byte of eight signs, in the order of the corners
abbrev pub byte : Bool → Bool → Bool → Bool → Bool → Bool → Bool → Bool → ℕ
byte a b c d e m p q = byte_of (a ∷ b ∷ c ∷ d ∷ e ∷ m ∷ p ∷ q ∷ [])

-- the eight samples of a cell, without the table
pub signs-byte : (g : Inside) (x y z : ℕ)
    → signs g x y z
    ≡ byte (g x y z) (g (x + 1) y z) (g (x + 1) (y + 1) z) (g x (y + 1) z) (g x y (z + 1)) (g (x + 1) y (z + 1)) (g (x + 1) (y + 1) (z + 1)) (g x (y + 1) (z + 1))
unfolding signs corners
signs-byte g x y z = rw (add-zero x, add-zero y, add-zero z)
