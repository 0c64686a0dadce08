-- The bits of the words that are kept, at each of a cell's edges: what is held at the start of a cell is what `get` finds, and a set that is put is there
-- from then on.
use mathlib.Core.Path.{◌≡◌, refl, sym, ap, ◌∙◌}
use mathlib.Core.Logic.{⊎_elim}
use mathlib.Core.Bool.{Bool, true, false, cond, ◌&&◌, ◌||◌, and-false, or-false}
use mathlib.Core.List.{List}
use Prim.Native.Nat.{ℕ, zero, suc, ◌+◌, ◌*◌, ◌/◌, ◌%◌, ◌^◌, ◌<◌}
use native.Mathlib.Nat.{mod-lt}
use native.Mathlib.Omega.{arith}
use lib.Bits.{bit_or, bit_and, or_lt, and_le_r}
use lib.Dec.{eqb, ltb}
use lib.ListN.{length, get_or, length-set}
use lib.Seq.{get_or-set_same, get_or-set_other}
use borrow.Author.Tests.{eqb-true, eqb-false}
use Rattle.marching_cubes_tables.specs.Rule.{bit_at}
use Rattle.walk.specs.Walk.{bit}
use Rattle.walk.specs.Cache.{Cache, get_column, found, get}
use Rattle.walk.proofs.Bools.{bool_cases}
use Rattle.sign_words.proofs.OneBit.{and-bit, or-bit}
use Rattle.held_bits.specs.HeldCell.{held_set, put_set}
use Rattle.held_bits.proofs.EdgeSets.{Has}
use Rattle.held_bits.proofs.CrateCell.{put_edge, has_number}

-- ---- a set, at the edges that are put

-- the bit of the edge that is put into column d of a row
abbrev pub put_place : ℕ → ℕ
put_place d = cond (eqb d 0) 6 (cond (eqb d 1) 10 11)

pub has-layer : (w : ℕ) (f : ℕ → Bool) → Has w f → (d : ℕ) → d < 4 → bit_at w (4 + d) ≡ bit (f (4 + d))
has-layer w f h zero l = h 4 (omega arith)
has-layer w f h (suc zero) l = h 5 (omega arith)
has-layer w f h (suc (suc zero)) l = h 6 (omega arith)
has-layer w f h (suc (suc (suc zero))) l = h 7 (omega arith)
has-layer w f h (suc (suc (suc (suc d)))) l = absurd (omega arith)

pub has-row : (w : ℕ) (f : ℕ → Bool) → Has w f → (d : ℕ) → d < 3 → bit_at w (put_place d) ≡ bit (f (put_edge d))
has-row w f h zero l = h 6 (omega arith)
has-row w f h (suc zero) l = h 10 (omega arith)
has-row w f h (suc (suc zero)) l = h 11 (omega arith)
has-row w f h (suc (suc (suc d))) l = absurd (omega arith)

-- ---- what is held

pub held_set-lt : (a b : ℕ) → held_set a b < 4096
unfolding held_set
held_set-lt a b =
    let low : a / 16 % 16 < 2 ^ 12 = omega arith in
    let high : bit_and (b / 4) 784 < 2 ^ 12 = omega (arith, and_le_r (b / 4) 784) in
    or_lt 12 (a / 16 % 16) (bit_and (b / 4) 784) low high

pub some-bit : (w i : ℕ) → bit_at w i ≡ bit (eqb (bit_at w i) 1)
some-bit w i = digit (bit_at w i) (mod-lt (w / 2 ^ i) (omega arith))
  where
    digit : (b : ℕ) → b < 2 → b ≡ bit (eqb b 1)
    digit zero h = refl
    digit (suc zero) h = refl
    digit (suc (suc b)) h = absurd (omega arith)

held-bit : (a b i : ℕ) (p q m : Bool) → bit_at (a / 16 % 16) i ≡ bit p → bit_at (b / 4) i ≡ bit q → bit_at 784 i ≡ bit m
    → bit_at (held_set a b) i ≡ bit (p || (q && m))
unfolding held_set
held-bit a b i p q m ea eb em = or-bit (a / 16 % 16) (bit_and (b / 4) 784) i p (q && m) ea (and-bit (b / 4) 784 i q m eb em)

layer-shift : (a d : ℕ) → d < 4 → bit_at (a / 16 % 16) d ≡ bit_at a (4 + d)
layer-shift a zero h = omega arith
layer-shift a (suc zero) h = omega arith
layer-shift a (suc (suc zero)) h = omega arith
layer-shift a (suc (suc (suc zero))) h = omega arith
layer-shift a (suc (suc (suc (suc d)))) h = absurd (omega arith)

-- by whether the mask has the bit
of_layer : (a b i : ℕ) (p : Bool) → bit_at (a / 16 % 16) i ≡ bit p → bit_at 784 i ≡ bit false → bit_at (held_set a b) i ≡ bit p
of_layer a b i p ea em =
    held-bit a b i p (eqb (bit_at (b / 4) i) 1) false ea (some-bit (b / 4) i) em
    ∙ ap bit (ap (λ (t : Bool). p || t) (and-false (eqb (bit_at (b / 4) i) 1)) ∙ or-false p)

of_row : (a b i : ℕ) (q : Bool) → bit_at (a / 16 % 16) i ≡ bit false → bit_at (b / 4) i ≡ bit q → bit_at 784 i ≡ bit true → bit_at (held_set a b) i ≡ bit q
of_row a b i q ea eb em = held-bit a b i false q true ea eb em ∙ ap bit (kept q)
  where
    kept : (q : Bool) → (q && true) ≡ q
    kept true = refl
    kept false = refl

module _ (n x y : ℕ) (c : Cache) (zeros : (e : ℕ) → c.current e ≡ 0) (none : c.cells0 1 ≡ 0) where
  -- at the start of a cell `get` finds what is outside it
  has-found : (e : ℕ) → has_number n x y c e ≡ ltb 0 (found n x y e c)
  unfolding get
  has-found e = rw (zeros e) (or-zero (found n x y e c))
    where
      or-zero : (f : ℕ) → ltb 0 (cond (ltb 0 f) f 0) ≡ ltb 0 f
      or-zero f =
          ⊎_elim (λ (t : ltb 0 f ≡ true). ap (λ (b : Bool). ltb 0 (cond b f 0)) t) (λ (t : ltb 0 f ≡ false). ap (λ (b : Bool). ltb 0 (cond b f 0)) t ∙ sym t)
          (bool_cases (ltb 0 f))

  module _ (a b : ℕ) (layer : (d : ℕ) → d < 4 → bit_at a (4 + d) ≡ bit (ltb 0 (c.layers0 (y * n + x) d)))
      (row : (d : ℕ) → d < 3 → bit_at b (put_place d) ≡ bit (ltb 0 (c.rows0 x d))) where
    at_edge : (i e : ℕ) (v : Bool) → ltb 0 (found n x y e c) ≡ v → bit_at (held_set a b) i ≡ bit v → bit_at (held_set a b) i ≡ bit (has_number n x y c e)
    at_edge i e v f h = h ∙ ap bit (sym f ∙ sym (has-found e))

    in-layer : (d : ℕ) → d < 4 → bit_at 784 d ≡ 0 → found n x y d c ≡ c.layers0 (y * n + x) d → bit_at (held_set a b) d ≡ bit (has_number n x y c d)
    in-layer d h m f =
        let v : Bool = ltb 0 (c.layers0 (y * n + x) d) in
        at_edge d d v (ap (ltb 0) f) (of_layer a b d v (layer-shift a d h ∙ layer d h) m)

    in_row : (i d : ℕ) → d < 3 → bit_at (a / 16 % 16) i ≡ 0 → bit_at (b / 4) i ≡ bit_at b (put_place d) → bit_at 784 i ≡ 1 → found n x y i c ≡ c.rows0 x d
        → bit_at (held_set a b) i ≡ bit (has_number n x y c i)
    in_row i d h low shift m f =
        let v : Bool = ltb 0 (c.rows0 x d) in
        at_edge i i v (ap (ltb 0) f) (of_row a b i v low (shift ∙ row d h) m)

    in-neither : (i e : ℕ) → bit_at (a / 16 % 16) i ≡ 0 → bit_at 784 i ≡ 0 → found n x y e c ≡ 0 → bit_at (held_set a b) i ≡ bit (has_number n x y c e)
    in-neither i e low m f = at_edge i e false (ap (ltb 0) f) (of_layer a b i false low m)

    pub held-has : Has (held_set a b) (has_number n x y c)
    unfolding found get_column
    held-has zero h = in-layer 0 (omega arith) refl refl
    held-has (suc zero) h = in-layer 1 (omega arith) refl refl
    held-has (suc (suc zero)) h = in-layer 2 (omega arith) refl refl
    held-has (suc (suc (suc zero))) h = in-layer 3 (omega arith) refl refl
    held-has (suc (suc (suc (suc zero)))) h = in_row 4 0 (omega arith) (omega arith) (omega arith) refl refl
    held-has (suc (suc (suc (suc (suc zero))))) h = in-neither 5 5 (omega arith) refl refl
    held-has (suc (suc (suc (suc (suc (suc zero)))))) h = in-neither 6 6 (omega arith) refl refl
    held-has (suc (suc (suc (suc (suc (suc (suc zero))))))) h = in-neither 7 7 (omega arith) refl none
    held-has (suc (suc (suc (suc (suc (suc (suc (suc zero)))))))) h = in_row 8 1 (omega arith) (omega arith) (omega arith) refl refl
    held-has (suc (suc (suc (suc (suc (suc (suc (suc (suc zero))))))))) h = in_row 9 2 (omega arith) (omega arith) (omega arith) refl refl
    held-has (suc (suc (suc (suc (suc (suc (suc (suc (suc (suc zero)))))))))) h = in-neither 10 11 (omega arith) refl none
    held-has (suc (suc (suc (suc (suc (suc (suc (suc (suc (suc (suc zero))))))))))) h = in-neither 11 10 (omega arith) refl refl
    held-has (suc (suc (suc (suc (suc (suc (suc (suc (suc (suc (suc (suc i)))))))))))) h = absurd (omega arith)

-- ---- what is put

pub put-length : (w : List ℕ) (at new : ℕ) → length (put_set w at new) ≡ length w
unfolding put_set
put-length w at new = length-set w at (bit_or (get_or w at 0) new)

pub put_other : (w : List ℕ) (at new j : ℕ) → (j ≡ at → ⊥) → get_or (put_set w at new) j 0 ≡ get_or w j 0
unfolding put_set
put_other w at new j h = get_or-set_other w at j (bit_or (get_or w at 0) new) 0 h

put_same : (w : List ℕ) (at new : ℕ) → at < length w → get_or (put_set w at new) at 0 ≡ bit_or (get_or w at 0) new
unfolding put_set
put_same w at new h = get_or-set_same w at (bit_or (get_or w at 0) new) 0 h

-- p and q are the places of the words j and `at`
pub put-bit : (w : List ℕ) (at new j i p q : ℕ) (u v : Bool) → at < length w → (p ≡ q → j ≡ at) → (j ≡ at → p ≡ q)
    → bit_at (get_or w j 0) i ≡ bit u → bit_at new i ≡ bit v → bit_at (get_or (put_set w at new) j 0) i ≡ bit (u || (eqb p q && v))
put-bit w at new j i p q u v room meet apart eu ev =
    ⊎_elim
    (λ (t : eqb p q ≡ true).
    let e : j ≡ at = meet (eqb-true p q t) in
    rw (t, e) (put-here e))
    (λ (t : eqb p q ≡ false). rw (t, or-false u) (ap (λ (k : ℕ). bit_at k i) (put_other w at new j (λ k. eqb-false p q t (apart k))) ∙ eu))
    (bool_cases (eqb p q))
  where
    put-here : j ≡ at → bit_at (get_or (put_set w at new) at 0) i ≡ bit (u || v)
    put-here e =
        ap (λ (k : ℕ). bit_at k i) (put_same w at new room)
        ∙ or-bit (get_or w at 0) new i u v (ap (λ (k : ℕ). bit_at (get_or w k 0) i) (sym e) ∙ eu) ev
