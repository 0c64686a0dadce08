-- The joined numbering's window of the working memory: while the walk is in layer z, the edges that its cells have are live, two live edges with one
-- slot are one edge, and the slot of a live edge that is met holds its number. No mark, and nothing to clear from layer to layer.
use mathlib.Core.Path.{◌≡◌, refl, sym, ap, ◌∙◌}
use mathlib.Core.Logic.{⊎_elim}
use mathlib.Core.Bool.{Bool, true, false, ◌&&◌, ◌||◌, false≢true}
use mathlib.Core.List.{List, [], ◌∷◌, ◌++◌}
use Prim.Native.Nat.{ℕ, zero, suc, ◌+◌, ◌-◌, ◌*◌, ◌%◌, ◌<◌, ◌≤◌}
use native.Mathlib.Decide.{dec_lt}
use native.Mathlib.Omega.{arith}
use lib.Dec.{eqb, ltb}
use lib.ListN.{length, get_or, set, drop, length-set}
use lib.Seq.{get_or-set_same, get_or-set_other, drop-set-lt}
use borrow.Author.Tests.{ltb-true}
use Rattle.walk.specs.Walk.{Inside, times}
use Rattle.walk.specs.Edges.{Edge, edge_of, reach, crosses, same, has}
use Rattle.walk.specs.Numbering.{Mesh, number}
use Rattle.walk.proofs.Bools.{bool_cases, and_right, or_split}
use Rattle.walk.proofs.TwelveEdges.{cell_edge}
use Rattle.walk.proofs.GridEdges.{visit_at, edge-ext, same_true, same_of, InBox}
use Rattle.walk.proofs.FirstUse.{has-snoc, number-snoc-same, number-snoc-other, number-pos}
use Rattle.walk.proofs.Rank.{rank, rank_mono, place-injective, place-lt}
use Rattle.walk.proofs.Home.{home_x, home_y, home_z, home}
use Rattle.walk.proofs.Ownership.{Met, met, named}
use Rattle.walk_models.specs.Owned.{word_of, slot}

pub record Live (n z : ℕ) (k : Edge) : Type 0 where
  pub x_lt : k.x < n
  pub y-lt : k.y < n
  pub axis-lt : k.axis < 3
  pub low : z ≤ k.z
  pub high : k.z + reach k.axis 2 ≤ z + 1

-- the edges of the cells of layer z are live
pub edge_of-live : (n x y z e : ℕ) → x < n - 1 → y < n - 1 → e < 12 → Live n z (edge_of (visit_at x y z e))
unfolding edge_of
edge_of-live n x y z e hx hy he =
    let c = cell_edge e he in
    let a = c.high_le 0 (omega arith) in
    let b = c.high_le 1 (omega arith) in
    let d = c.high_le 2 (omega arith) in
    record { x_lt = omega arith; y-lt = omega arith; axis-lt = c.axis-lt; low = omega arith; high = omega arith }

word_lt : (i z : ℕ) → word_of i z < 8
word_lt zero z = omega arith
word_lt (suc zero) z = omega arith
word_lt (suc (suc i)) z = omega arith

next-parity : (v : ℕ) → (v + 1) % 2 ≡ v % 2 → ⊥
next-parity v h = omega arith

parity : (y z v : ℕ) → y ≤ z → z ≤ y + 1 → y ≤ v → v ≤ y + 1 → z % 2 ≡ v % 2 → z ≡ v
parity y z v a b c d h =
    elim (dec_lt z v) [
      | yes l ↦ absurd (next-parity z (sym (let e : v ≡ z + 1 = omega arith in rw e at h)))
      | no l ↦
          elim (dec_lt v z) [
            | yes m ↦ absurd (next-parity v (let e : z ≡ v + 1 = omega arith in rw e at h))
            | no m ↦ omega arith
          ]
    ]

word-injective : (y i z j v : ℕ) → i < 3 → y ≤ z → z + reach i 2 ≤ y + 1 → j < 3 → y ≤ v → v + reach j 2 ≤ y + 1 → word_of i z ≡ word_of j v
    → (i ≡ j) × (z ≡ v)
word-injective y zero z zero v a b c d e f h = (refl, parity y z v b (omega arith) e (omega arith) (omega arith))
word-injective y zero z (suc zero) v a b c d e f h = absurd (omega arith)
word-injective y zero z (suc (suc j)) v a b c d e f h = absurd (omega arith)
word-injective y (suc zero) z zero v a b c d e f h = absurd (omega arith)
word-injective y (suc zero) z (suc zero) v a b c d e f h = (refl, parity y z v b (omega arith) e (omega arith) (omega arith))
word-injective y (suc zero) z (suc (suc j)) v a b c d e f h = absurd (omega arith)
word-injective y (suc (suc i)) z zero v a b c d e f h = absurd (omega arith)
word-injective y (suc (suc i)) z (suc zero) v a b c d e f h = absurd (omega arith)
word-injective y (suc (suc zero)) z (suc (suc zero)) v a b c d e f h = (refl, omega arith)
word-injective y (suc (suc (suc i))) z (suc (suc j)) v a b c d e f h = absurd (omega arith)
word-injective y (suc (suc zero)) z (suc (suc (suc j))) v a b c d e f h = absurd (omega arith)

pub slot-injective : (n z : ℕ) (k m : Edge) → Live n z k → Live n z m → slot n k ≡ slot n m → same k m ≡ true
unfolding slot
slot-injective n z k m a b h =
    let p : ℕ = k.y * n + k.x in
    let q : ℕ = m.y * n + m.x in
    let i = word_lt k.axis k.z in
    let j = word_lt m.axis m.z in
    let e : p ≡ q = omega arith in
    let f : word_of k.axis k.z ≡ word_of m.axis m.z = omega arith in
    let xy = place-injective n k.x k.y m.x m.y a.x_lt b.x_lt e in
    let w = word-injective z k.axis k.z m.axis m.z a.axis-lt a.low a.high b.axis-lt b.low b.high f in
    same_of k m (edge-ext k m w.0 xy.0 xy.1 w.1)

pub slot_lt : (n z : ℕ) (k : Edge) → Live n z k → slot n k < 8 * (n * n)
unfolding slot
slot_lt n z k a = let p = place-lt n k.x k.y a.x_lt a.y-lt in let i = word_lt k.axis k.z in omega arith

-- ---- the numbers in it

-- in layer z: the live edges that are met have their number in their slot, and nothing past the window has changed
pub record Window (n layers z : ℕ) (old : List ℕ) (ms : List Edge) (work : List ℕ) : Type 0 where
  pub size : length work ≡ length old
  pub tail : drop (8 * (n * n)) work ≡ drop (8 * (n * n)) old
  pub live : (k : Edge) → InBox n layers k → Live n z k → has k ms ≡ true → suc (get_or work (slot n k) 0) ≡ number k ms

pub window-made : (n layers z : ℕ) (old : List ℕ) → 8 * (n * n) ≤ length old → (ms : List Edge) (work : List ℕ) (m : Edge) → Live n z m
    → number m ms ≡ 0
    → Window n layers z old ms work → Window n layers z old (ms ++ (m ∷ [])) (set work (slot n m) (length ms))
window-made n layers z old room ms work m lm new w =
    let e = w.size in
    let s = slot_lt n z m lm in
    record {
      size = length-set work (slot n m) (length ms) ∙ e;
      tail = drop-set-lt (8 * (n * n)) work (slot n m) (length ms) s ∙ w.tail;
      live = λ k b a h.
          ⊎_elim
          (λ (t : same k m ≡ true).
          let q : k ≡ m = same_true k m t in
          ap (λ (o : Edge). suc (get_or (set work (slot n m) (length ms)) (slot n o) 0)) q ∙ ap suc (get_or-set_same work (slot n m) (length ms) 0 (omega arith))
          ∙ sym (ap (λ (o : Edge). number o (ms ++ (m ∷ []))) q ∙ number-snoc-same m ms new))
          (λ (f : same k m ≡ false).
          let old-has : has k ms ≡ true = ⊎_elim (λ p. p) (λ p. absurd (false≢true (sym f ∙ p))) (or_split (has k ms) (same k m) (sym (has-snoc k m ms) ∙ h)) in
          ap suc (get_or-set_other work (slot n m) (slot n k) (length ms) 0 (λ q. false≢true (sym f ∙ slot-injective n z k m a lm q)))
          ∙ w.live k b a old-has ∙ sym (number-snoc-other k m ms f))
          (bool_cases (same k m));
    }

-- an edge met in the layers up to z that is live in layer z + 1 was live in layer z
still-live : (g : Inside) (n z : ℕ) (k : Edge) → met g (n - 1) 0 0 (suc z) 0 k ≡ true → Live n (suc z) k → Live n z k
unfolding met named times home
still-live g n z k h a =
    let m : ℕ = n - 1 in
    let r : ℕ = rank m 0 0 (suc z) in
    let before : Bool = ltb (home m k) r in
    let here : Bool = eqb (home m k) r in
    let u : before ≡ true =
    ⊎_elim (λ p. p) (λ p. absurd (false≢true (and_right here false p))) (or_split before (here && false) (and_right (crosses g k) (before || (here && false)) h)) in
    let lt : home m k < r = ltb-true (home m k) r u in
    let lo = a.low in
    let hi = a.high in
    elim (dec_lt (home_z k) (suc z)) [
      | yes p ↦ record { x_lt = a.x_lt; y-lt = a.y-lt; axis-lt = a.axis-lt; low = omega arith; high = omega arith }
      | no p ↦ absurd (let q = rank_mono m (home_x k) (home_y k) (home_z k) 0 0 (suc z) (omega arith) (omega arith) (omega arith) in omega arith)
    ]

pub window-start : (n layers z : ℕ) (old : List ℕ) → Window n layers z old [] old
unfolding has
window-start n layers z old = record { size = refl; tail = refl; live = λ k b a h. absurd (false≢true h) }

-- what is read for a live edge that is met
pub window-number : (n layers z : ℕ) (old : List ℕ) (ms : List Edge) (work : List ℕ) → Window n layers z old ms work → (k : Edge)
    → InBox n layers k → Live n z k
    → 0 < number k ms → get_or work (slot n k) 0 ≡ number k ms - 1
window-number n layers z old ms work w k b a h = let e = w.live k b a (number-pos k ms h) in omega arith

-- at the end of layer z nothing is done
pub window-layer-end : (g : Inside) (n layers z : ℕ) (old : List ℕ) (s : Mesh (List Edge)) (work : List ℕ) → Met g n layers (suc z) 0 0 0 s
    → Window n layers z old s.memory work → Window n layers (suc z) old s.memory work
window-layer-end g n layers z old s work m w =
    record { size = w.size; tail = w.tail; live = λ k b a h. w.live k b (still-live g n z k (sym (m.known k b) ∙ h) a) h }
