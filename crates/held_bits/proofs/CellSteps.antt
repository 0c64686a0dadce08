-- What the steps of `held_cell` and of `clear_held` come to, over plain values: the cell of the model, no more vertices than indices, and a row cleared.
use mathlib.Core.Path.{◌≡◌, refl, sym, ap, ◌∙◌}
use mathlib.Core.Logic.{⊎_elim}
use mathlib.Core.Bool.{Bool, true, false, cond, not}
use mathlib.Core.List.{List, [], ◌∷◌}
use Prim.Native.Nat.{ℕ, suc, ◌+◌, ◌-◌, ◌/◌, ◌%◌, ◌≤◌, ◌<◌}
use native.Mathlib.Nat.{add-zero}
use native.Mathlib.Numerals.{add-one}
use native.Mathlib.Omega.{arith}
use lib.Bits.{bit_xor, or_zero_l, or_zero_r, xor_self}
use lib.Count.{ones, ones_in}
use lib.Dec.{T, eqb, eqb→eq}
use lib.ListN.{length, get_or, set}
use lib.Seq.{set-get_or}
use Rattle.marching_cubes_tables.specs.Rule.{row_edges, bit_at, member}
use Rattle.walk.specs.Walk.{bit, times}
use Rattle.walk.proofs.Below.{all_below, all_below-at}
use Rattle.walk.proofs.Bools.{bool_cases}
use Rattle.walk.proofs.NewEdges.{new_edges-length-le}
use Rattle.packed_tables.specs.Unpacked.{Edges}
use Rattle.held_bits.specs.Names.{name_words}
use Rattle.held_bits.specs.HeldCell.{Held, layer_word, row_word, named_set, first_made, held_set, new_set, put_set, held_cell, clear_held}
use Rattle.held_bits.proofs.EdgeSets.{edge_at, Has, new_set-ones}
use Rattle.held_bits.proofs.NameWords.{after_first, first, Names, name-word, after-edges}
use Rattle.held_bits.proofs.HeldBits.{some-bit, held_set-lt}

-- ---- how far the counts grow

edge-back : T (all_below 12 (λ i. eqb (edge_at (edge_at i)) i))
edge-back = tt

-- any word is a set of edges
some-set : (w : ℕ) → Has w (λ e. eqb (bit_at w (edge_at e)) 1)
some-set w i h =
    let back : edge_at (edge_at i) ≡ i = eqb→eq _ _ (all_below-at 12 (λ i. eqb (edge_at (edge_at i)) i) edge-back i h) in
    some-bit w i ∙ ap (λ (j : ℕ). bit (eqb (bit_at w j) 1)) (sym back)

new-le : (es : List ℕ) (named has : ℕ) → Edges es → named < 4096 → has < 4096 → Has named (λ e. member e es) → ones (new_set named has) ≤ length es
new-le es named has each p q set =
    let e = new_set-ones es named has (λ e. eqb (bit_at has (edge_at e)) 1) each p q set (some-set has) in
    let l = new_edges-length-le (λ e. not (eqb (bit_at has (edge_at e)) 1)) es in
    omega arith

first-and-after : (es : List ℕ) → first es + length (after_first es) ≡ length es
first-and-after [] = refl
first-and-after (e ∷ es) = omega arith

grown : (word written has : ℕ) (es : List ℕ) → has < 4096 → Names word es
    → first_made word written + ones (new_set (named_set word written) has) ≤ word / 4096 % 16
grown word written has es small names =
    let count = names.count in
    ⊎_elim
    (λ (t : eqb written 0 ≡ true).
    let l = new-le (after_first es) (word / 65536 % 4096) has (after-edges es names.edges) (omega arith) small names.later in
    let one = names.one in
    let all = first-and-after es in
    rw t (omega arith))
    (λ (t : eqb written 0 ≡ false). let l = new-le es (word % 4096) has names.edges (omega arith) small names.all in rw t (omega arith))
    (bool_cases (eqb written 0))

-- where the steps are told by their equations
module _ (names work : List ℕ) (case a b named has new first written : ℕ) (table : names ≡ name_words) (case-lt : case < 256)
    (is-named : named ≡ named_set (get_or names case 0) written) (is_held_lem : has ≡ held_set a b) (is-new : new ≡ new_set named has)
    (is-first : first ≡ first_made (get_or names case 0) written) where
  pub counts-grown : first + ones new ≤ get_or names case 0 / 4096 % 16
  counts-grown =
      rw (is-new, is-named, is-first, is_held_lem, table)
      (grown (get_or name_words case 0) written (held_set a b) (row_edges case) (held_set-lt a b) (name-word case case-lt))

  pub cell-done : (n l r x y made p q s c : ℕ) (u t : List ℕ) → p ≡ layer_word n l x y → a ≡ get_or work p 0 → q ≡ row_word n r x → b ≡ get_or work q 0
      → s ≡ layer_word n (1 - l) x y → u ≡ put_set work s new → c ≡ row_word n (1 - r) x → t ≡ put_set u c new
      → ◌≡◌ {A = Held} (record { work = t; made = made + first + ones new; written = written + get_or names case 0 / 4096 % 16 })
      (held_cell n l r x y (get_or name_words case 0) (record { work = work; made = made; written = written }))
  unfolding held_cell
  cell-done n l r x y made p q s c u t ep ea eq eb es eu ec et = rw (et, eu, ec, es, is-new, is-named, is-first, is_held_lem, ea, eb, ep, eq, table) refl

-- ---- a cell that names nothing

either-none : (b : Bool) → ◌≡◌ {A = ℕ} (cond b 0 0) 0
either-none true = refl
either-none false = refl

new_set-none : (has : ℕ) → new_set 0 has ≡ 0
unfolding new_set
new_set-none has = ap (λ (k : ℕ). bit_xor k has) (or_zero_l has) ∙ xor_self has

put_set-none : (w : List ℕ) (at : ℕ) → put_set w at 0 ≡ w
unfolding put_set
put_set-none w at = ap (set w at) (or_zero_r (get_or w at 0)) ∙ set-get_or w at 0

none_is : (n l r x y : ℕ) (s : Held) → held_cell n l r x y 0 s ≡ s
unfolding held_cell ones ones_in
none_is n l r x y s =
    let named : named_set 0 s.written ≡ 0 = either-none (eqb s.written 0) in
    let first : first_made 0 s.written ≡ 0 = either-none (eqb s.written 0) in
    let new : new_set (named_set 0 s.written) (held_set (get_or s.work (layer_word n l x y) 0) (get_or s.work (row_word n r x) 0)) ≡ 0 =
    ap (λ (k : ℕ). new_set k (held_set (get_or s.work (layer_word n l x y) 0) (get_or s.work (row_word n r x) 0))) named ∙ new_set-none _ in
    rw (new, first, put_set-none (put_set s.work (layer_word n (1 - l) x y) 0) (row_word n (1 - r) x), put_set-none s.work (layer_word n (1 - l) x y), add-zero (s.made + 0), add-zero s.made, add-zero s.written) refl

-- where the row is empty its word is 0, and nothing is changed
pub held_cell-idle : (n l r x y case : ℕ) (s : Held) → case < 256 → row_edges case ≡ [] → held_cell n l r x y (get_or name_words case 0) s ≡ s
held_cell-idle n l r x y case s h none =
    let zero : get_or name_words case 0 ≡ 0 = (name-word case h).none (ap length none) in
    rw zero (none_is n l r x y s)

-- ---- one place of a row more is cleared

pub clear_held-suc : (n r x at : ℕ) (w u t : List ℕ) → at ≡ row_word n r x → u ≡ clear_held n r x w → t ≡ set u at 0 → t ≡ clear_held n r (x + 1) w
unfolding clear_held times
clear_held-suc n r x at w u t p q d =
    let turn : t ≡ clear_held n r (suc x) w = rw (d, q, p) refl in
    turn ∙ ap (λ (k : ℕ). clear_held n r k w) (sym (add-one x))
