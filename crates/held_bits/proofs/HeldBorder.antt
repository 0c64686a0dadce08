-- Between two cells: the words that are kept say of each entry of the index cache whether it is 0, and the counts are those of the mesh. A cell, the end of a
-- row and the end of a layer keep that.
use mathlib.Core.Path.{◌≡◌, refl, sym, ap, ◌∙◌, subst}
use mathlib.Core.Logic.{⊎_elim}
use mathlib.Core.Bool.{Bool, true, false, cond, not, ◌&&◌, ◌||◌}
use mathlib.Core.List.{List, [], ◌∷◌}
use Prim.Native.Nat.{ℕ, zero, suc, ◌+◌, ◌-◌, ◌*◌, ◌/◌, ◌%◌, ◌^◌, ◌≤◌, ◌<◌}
use native.Mathlib.Nat.{not-suc-le-zero, zero-div}
use native.Mathlib.Decide.{dec_lt}
use native.Mathlib.Omega.{arith}
use lib.Bits.{bit_or}
use lib.Count.{ones}
use lib.Dec.{eqb, leb, ltb}
use lib.ListN.{length, get_or, set, drop, length-set}
use lib.Seq.{get_or-set_same, get_or-set_other, drop-set-lt}
use borrow.Author.Tests.{eqb-true, eqb-false}
use Rattle.marching_cubes_tables.specs.Rule.{row_edges, bit_at, member}
use Rattle.walk.specs.Walk.{Inside, bit, signs, cell_edges, times, cell}
use Rattle.walk.specs.Cache.{Cache, fresh, get_column, found, get, advance_cell, advance_row, advance_layer}
use Rattle.walk.specs.Numbering.{Mesh, empty, hooks, crate}
use Rattle.walk.specs.Ownership.{new_edges}
use Rattle.walk.proofs.Bools.{bool_cases}
use Rattle.walk.proofs.Rank.{place-lt}
use Rattle.walk.proofs.SignByte.{signs-lt}
use Rattle.walk.proofs.OwnedCells.{fold, times-fold}
use Rattle.packed_tables.specs.Unpacked.{Edges}
use Rattle.held_bits.specs.Names.{name_words}
use Rattle.held_bits.specs.HeldCell.{Held, held_room, layer_word, row_word, named_set, first_made, held_set, new_set, put_set, held_cell, clear_held}
use Rattle.held_bits.proofs.EdgeSets.{Has, new_set-has, new_set-ones}
use Rattle.held_bits.proofs.NameWords.{after_first, first, Names, name-word, after-edges}
use Rattle.held_bits.proofs.CrateCell.{put_edge, has_number, Quiet, visit, Left, visits-left, first-left}
use Rattle.held_bits.proofs.HeldBits.{put_place, has-layer, has-row, held_set-lt, held-has, put-length, put_other, put-bit}

-- ---- the four arrays in one list of words

pub record Bits (n : ℕ) (old work : List ℕ) (l r : ℕ) (layers0 layers1 rows0 rows1 : ℕ → ℕ → ℕ) : Type 0 where
  pub l_le : l ≤ 1
  pub r-le : r ≤ 1
  pub size : length work ≡ length old
  pub tail : drop (held_room n) work ≡ drop (held_room n) old
  pub lay0 : (p d : ℕ) → p < n * n → d < 4 → bit_at (get_or work (2 * p + l) 0) (4 + d) ≡ bit (ltb 0 (layers0 p d))
  pub lay1 : (p d : ℕ) → p < n * n → d < 4 → bit_at (get_or work (2 * p + (1 - l)) 0) (4 + d) ≡ bit (ltb 0 (layers1 p d))
  pub row0 : (u d : ℕ) → u < n → d < 3 → bit_at (get_or work (row_word n r u) 0) (put_place d) ≡ bit (ltb 0 (rows0 u d))
  pub row1 : (u d : ℕ) → u < n → d < 3 → bit_at (get_or work (row_word n (1 - r) u) 0) (put_place d) ≡ bit (ltb 0 (rows1 u d))

put-past : (n : ℕ) (w : List ℕ) (at new : ℕ) → at < held_room n → drop (held_room n) (put_set w at new) ≡ drop (held_room n) w
unfolding put_set
put-past n w at new h = drop-set-lt (held_room n) w at (bit_or (get_or w at 0) new) h

zero_bit : (i : ℕ) → bit_at 0 i ≡ 0
zero_bit i = ap (λ (k : ℕ). k % 2) (zero-div (2 ^ i))

back : (b : ℕ) → b ≤ 1 → 1 - (1 - b) ≡ b
back b h = omega arith

module _ (n : ℕ) (old : List ℕ) (room : held_room n ≤ length old) where
  -- a set is put into the layer and the row that are not read
  both-put : (work : List ℕ) (l r x y new : ℕ) (l0 l1 r0 r1 m1 q1 : ℕ → ℕ → ℕ) (f : ℕ → Bool) → x < n → y < n → Has new f
      → ((p d : ℕ) → d < 4 → ltb 0 (m1 p d) ≡ (ltb 0 (l1 p d) || (eqb p (y * n + x) && f (4 + d))))
      → ((u d : ℕ) → d < 3 → ltb 0 (q1 u d) ≡ (ltb 0 (r1 u d) || (eqb u x && f (put_edge d))))
      → Bits n old work l r l0 l1 r0 r1
      → Bits n old (put_set (put_set work (layer_word n (1 - l) x y) new) (row_word n (1 - r) x) new) l r l0 m1 r0 q1
  both-put work l r x y new l0 l1 r0 r1 m1 q1 f hx hy has layers rows s =
      let a = s.l_le in
      let b = s.r-le in
      let c = s.size in
      let at : ℕ = layer_word n (1 - l) x y in
      let column : ℕ = row_word n (1 - r) x in
      let w : List ℕ = put_set work at new in
      let lw : length w ≡ length work = put-length work at new in
      let inside : y * n + x < n * n = place-lt n x y hx hy in
      record {
        l_le = a;
        r-le = b;
        size = put-length w column new ∙ lw ∙ c;
        tail = put-past n w column new (omega arith) ∙ put-past n work at new (omega arith) ∙ s.tail;
        lay0 = λ p d hp hd.
            ap (λ (k : ℕ). bit_at k (4 + d)) (put_other w column new (2 * p + l) (λ q. omega arith) ∙ put_other work at new (2 * p + l) (λ q. omega arith))
            ∙ s.lay0 p d hp hd;
        lay1 = λ p d hp hd.
            ap (λ (k : ℕ). bit_at k (4 + d)) (put_other w column new (2 * p + (1 - l)) (λ q. omega arith))
            ∙ put-bit work at new (2 * p + (1 - l)) (4 + d) p (y * n + x) (ltb 0 (l1 p d)) (f (4 + d)) (omega arith) (λ q. omega arith) (λ q. omega arith)
            (s.lay1 p d hp hd) (has-layer new f has d hd)
            ∙ ap bit (sym (layers p d hd));
        row0 = λ u d hu hd.
            ap (λ (k : ℕ). bit_at k (put_place d)) (put_other w column new (row_word n r u) (λ q. omega arith) ∙ put_other work at new (row_word n r u) (λ q. omega arith))
            ∙ s.row0 u d hu hd;
        row1 = λ u d hu hd.
            put-bit w column new (row_word n (1 - r) u) (put_place d) u x (ltb 0 (r1 u d)) (f (put_edge d)) (omega arith) (λ q. omega arith) (λ q. omega arith)
            (ap (λ (k : ℕ). bit_at k (put_place d)) (put_other work at new (row_word n (1 - r) u) (λ q. omega arith)) ∙ s.row1 u d hu hd) (has-row new f has d hd)
            ∙ ap bit (sym (rows u d hd));
      }

  layer-swap : (work : List ℕ) (l r : ℕ) (l0 l1 r0 r1 : ℕ → ℕ → ℕ) → Bits n old work l r l0 l1 r0 r1 → Bits n old work (1 - l) r l1 l0 r0 r1
  layer-swap work l r l0 l1 r0 r1 s =
      record {
        l_le = omega arith;
        r-le = s.r-le;
        size = s.size;
        tail = s.tail;
        lay0 = s.lay1;
        lay1 = λ p d hp hd. rw (back l s.l_le) (s.lay0 p d hp hd);
        row0 = s.row0;
        row1 = s.row1;
      }

  row-swap : (work : List ℕ) (l r : ℕ) (l0 l1 r0 r1 : ℕ → ℕ → ℕ) → Bits n old work l r l0 l1 r0 r1 → Bits n old work l (1 - r) l0 l1 r1 r0
  row-swap work l r l0 l1 r0 r1 s =
      record {
        l_le = s.l_le;
        r-le = omega arith;
        size = s.size;
        tail = s.tail;
        lay0 = s.lay0;
        lay1 = s.lay1;
        row0 = s.row1;
        row1 = λ u d hu hd. rw (back r s.r-le) (s.row0 u d hu hd);
      }

  -- ---- clearing a row

  clear-size : (r k : ℕ) (w : List ℕ) → length (clear_held n r k w) ≡ length w
  unfolding clear_held times
  clear-size r zero w = refl
  clear-size r (suc k) w = simp length-set (clear-size r k w)

  clear-tail : (r k : ℕ) (w : List ℕ) → r ≤ 1 → k ≤ n → drop (held_room n) (clear_held n r k w) ≡ drop (held_room n) w
  unfolding clear_held times
  clear-tail r zero w hr hk = refl
  clear-tail r (suc k) w hr hk = drop-set-lt (held_room n) (clear_held n r k w) (row_word n r k) 0 (omega arith) ∙ clear-tail r k w hr (omega arith)

  clear-other : (r k : ℕ) (w : List ℕ) (i : ℕ) → ((u : ℕ) → u < k → i ≡ row_word n r u → ⊥) → get_or (clear_held n r k w) i 0 ≡ get_or w i 0
  unfolding clear_held times
  clear-other r zero w i h = refl
  clear-other r (suc k) w i h =
      get_or-set_other (clear_held n r k w) (row_word n r k) i 0 0 (h k (omega arith)) ∙ clear-other r k w i (λ u a. h u (omega arith))

  clear_zero : (r k : ℕ) (w : List ℕ) (u : ℕ) → 2 * (n * n) + 2 * k ≤ length w → r ≤ 1 → u < k → get_or (clear_held n r k w) (row_word n r u) 0 ≡ 0
  unfolding clear_held times
  clear_zero r zero w u l b h = absurd (not-suc-le-zero h)
  clear_zero r (suc k) w u l b h =
      let m : List ℕ = clear_held n r k w in
      let ml : length m ≡ length w = clear-size r k w in
      elim (dec_lt u k) [
        | yes q ↦ get_or-set_other m (row_word n r k) (row_word n r u) 0 0 (λ e. omega arith) ∙ clear_zero r k w u (omega arith) b q
        | no q ↦ let e : u ≡ k = omega arith in rw e (get_or-set_same m (row_word n r k) 0 0 (omega arith))
      ]

  no-bit : (w i : ℕ) → w ≡ 0 → bit_at w i ≡ 0
  no-bit w i h = ap (λ (k : ℕ). bit_at k i) h ∙ zero_bit i

  row-cleared : (w : List ℕ) (l r : ℕ) (l0 l1 r0 r1 : ℕ → ℕ → ℕ) → Bits n old w l r l0 l1 r0 r1 → Bits n old (clear_held n r n w) l r l0 l1 (λ u d. 0) r1
  row-cleared w l r l0 l1 r0 r1 s =
      let a = s.l_le in
      let b = s.r-le in
      let c = s.size in
      record {
        l_le = a;
        r-le = b;
        size = clear-size r n w ∙ c;
        tail = clear-tail r n w b (omega arith) ∙ s.tail;
        lay0 = λ p d hp hd. ap (λ (k : ℕ). bit_at k (4 + d)) (clear-other r n w (2 * p + l) (λ u h e. omega arith)) ∙ s.lay0 p d hp hd;
        lay1 = λ p d hp hd. ap (λ (k : ℕ). bit_at k (4 + d)) (clear-other r n w (2 * p + (1 - l)) (λ u h e. omega arith)) ∙ s.lay1 p d hp hd;
        row0 = λ u d hu hd. no-bit (get_or (clear_held n r n w) (row_word n r u) 0) (put_place d) (clear_zero r n w u (omega arith) b hu);
        row1 = λ u d hu hd. ap (λ (k : ℕ). bit_at k (put_place d)) (clear-other r n w (row_word n (1 - r) u) (λ v h e. omega arith)) ∙ s.row1 u d hu hd;
      }

  -- ---- the mesh beside the words

  pub record Border (l r : ℕ) (s : Mesh Cache) (t : Held) : Type 0 where
    pub bits : Bits n old t.work l r s.memory.layers0 s.memory.layers1 s.memory.rows0 s.memory.rows1
    pub made : t.made ≡ length s.made
    pub written : t.written ≡ length s.indices
    pub current : (e : ℕ) → s.memory.current e ≡ 0
    pub none0 : s.memory.cells0 1 ≡ 0
    pub none1 : s.memory.cells1 1 ≡ 0
    pub quiet : length s.indices ≡ 0 → Quiet s.memory × (length s.made ≡ 0)
    pub begun : 0 < length s.indices → 0 < length s.made

  -- ---- a cell

  abbrev ended : Mesh Cache → Mesh Cache
  ended m = record { memory = advance_cell m.memory; made = m.made; indices = m.indices }

  not-not : (b : Bool) → b ≡ not (not b)
  not-not true = refl
  not-not false = refl

  module _ (x y z word : ℕ) (es : List ℕ) (hx : x < n) (hy : y < n) (names : Names word es) (l r : ℕ) (s : Mesh Cache) (t : Held) (b : Border l r s t) where
    abbrev has : ℕ → Bool
    has e = has_number n x y s.memory e

    abbrev new : ℕ → Bool
    new e = not (has e)

    abbrev held_here : ℕ
    held_here = held_set (get_or t.work (layer_word n l x y) 0) (get_or t.work (row_word n r x) 0)

    here-has : Has held_here has
    here-has =
        held-has n x y s.memory b.current b.none0 (get_or t.work (layer_word n l x y) 0) (get_or t.work (row_word n r x) 0)
        (λ d hd. b.bits.lay0 (y * n + x) d (place-lt n x y hx hy) hd) (λ d hd. b.bits.row0 x d hx hd)

    -- k vertices first, and then those of the list `some`, whose set is `named`
    kept_by : (k named : ℕ) (some : List ℕ) (m : Mesh Cache) → named_set word t.written ≡ named → first_made word t.written ≡ k → named < 4096
        → Has named (λ e. member e some) → Edges some → Left n x y z k new some es s m
        → (length es ≡ 0 → m ≡ s) → (0 < length s.indices + length es → 0 < length s.made + k)
        → Border l r (ended m) (held_cell n l r x y word t)
    unfolding held_cell advance_cell
    kept_by k named some m is_named is_first small set each f same more =
        let fresh : ℕ = new_set named held_here in
        let lm = f.made in
        let li = f.indices in
        let bm = b.made in
        let bw = b.written in
        let count = names.count in
        let new-ones : ones fresh ≡ length (new_edges new some) =
        new_set-ones some named held_here has each small (held_set-lt _ _) set here-has in
        rw (is_named, is_first)
        (record {
          bits =
              subst (λ (f0 : ℕ → ℕ → ℕ). Bits n old (put_set (put_set t.work (layer_word n (1 - l) x y) fresh) (row_word n (1 - r) x) fresh) l r f0 m.memory.layers1 m.memory.rows0 m.memory.rows1)
              (sym f.layers0)
              (subst (λ (f0 : ℕ → ℕ → ℕ). Bits n old (put_set (put_set t.work (layer_word n (1 - l) x y) fresh) (row_word n (1 - r) x) fresh) l r s.memory.layers0 m.memory.layers1 f0 m.memory.rows1)
              (sym f.rows0)
              (both-put t.work l r x y fresh s.memory.layers0 s.memory.layers1 s.memory.rows0 s.memory.rows1 m.memory.layers1 m.memory.rows1
              (λ e. member e some && new e) hx hy (new_set-has named held_here (λ e. member e some) has set here-has) f.layers1 f.rows1 b.bits));
          made = omega arith;
          written = omega arith;
          current = λ e. refl;
          none0 = f.none1 b.none1;
          none1 = ap (λ (g : ℕ → ℕ). g 1) f.cells0 ∙ b.none0;
          quiet = λ h.
              let q = b.quiet (omega arith) in
              let e : m ≡ s = same (omega arith) in
              let old-quiet : Quiet m.memory = subst (λ (u : Mesh Cache). Quiet u.memory) (sym e) q.0 in
              (record { layers0 = old-quiet.layers0; layers1 = old-quiet.layers1; rows0 = old-quiet.rows0; rows1 = old-quiet.rows1 }, ap (λ (u : Mesh Cache). length u.made) e ∙ q.1);
          begun = λ h. let g = more (omega arith) in omega arith;
        })

    first_some : (es : List ℕ) → 0 < length es → 0 < first es
    first_some [] h = h
    first_some (e ∷ es) h = omega arith

    fold-none : (es : List ℕ) → length es ≡ 0 → fold (visit n x y z) es s ≡ s
    unfolding fold
    fold-none [] h = refl
    fold-none (e ∷ es) h = absurd (omega arith)

    nothing-held : Quiet s.memory → (e : ℕ) → has e ≡ false
    unfolding get found
    nothing-held q e = rw (q.layers0 (y * n + x) e, q.rows0 x (get_column e), b.none0, b.current e) (none_of (leb e 3) (ltb (get_column e) 3) (eqb e 7 || eqb e 11))
      where
        none_of : (p q r : Bool) → ltb 0 (cond (ltb 0 (cond p 0 (cond q 0 (cond r 0 0)))) (cond p 0 (cond q 0 (cond r 0 0))) 0) ≡ false
        none_of true q r = refl
        none_of false true r = refl
        none_of false false true = refl
        none_of false false false = refl

    edges-kept : Border l r (ended (fold (visit n x y z) es s)) (held_cell n l r x y word t)
    edges-kept =
        let bw = b.written in
        ⊎_elim
        (λ (e : eqb t.written 0 ≡ true).
        let none : length s.indices ≡ 0 = (let w = eqb-true t.written 0 e in omega arith) in
        let q = b.quiet none in
        let qm = q.1 in
        kept_by (first es) (word / 65536 % 4096) (after_first es) (fold (visit n x y z) es s) (rw e refl) (rw e names.one) (omega arith) names.later
        (after-edges es names.edges)
        (first-left n x y z es new s names.edges (λ e h. not-not (has e)) (λ e h. nothing-held q.0 e) q.0 q.1)
        (fold-none es) (λ h. let some = first_some es (omega arith) in omega arith))
        (λ (e : eqb t.written 0 ≡ false).
        let some : 0 < length s.indices = (let w = eqb-false t.written 0 e in omega arith) in
        let made_Some = b.begun some in
        kept_by 0 (word % 4096) es (fold (visit n x y z) es s) (rw e refl) (rw e refl) (omega arith) names.all names.edges
        (visits-left n x y z es new s names.edges (λ e h. not-not (has e)) made_Some) (fold-none es) (λ h. omega arith))
        (bool_cases (eqb t.written 0))

  pub cell-kept : (g : Inside) (z y x l r : ℕ) (s : Mesh Cache) (t : Held) → x < n → y < n → Border l r s t
      → Border l r (cell (hooks (crate n)) g n z y x s) (held_cell n l r x y (get_or name_words (signs g x y z) 0) t)
  unfolding cell hooks crate visit cell_edges
  cell-kept g z y x l r s t hx hy b =
      let es : List ℕ = row_edges (signs g x y z) in
      subst (λ (m : Mesh Cache). Border l r (ended m) (held_cell n l r x y (get_or name_words (signs g x y z) 0) t)) (sym (times-fold (visit n x y z) 0 es s))
      (edges-kept x y z (get_or name_words (signs g x y z) 0) es hx hy (name-word (signs g x y z) (signs-lt g x y z)) l r s t b)

  -- ---- the ends, and the start

  pub row-end-kept : (l r : ℕ) (s : Mesh Cache) (t : Held) → Border l r s t → Border l (1 - r) ((hooks (crate n)).row_end s) t
  unfolding hooks crate advance_row
  row-end-kept l r s t b =
      record {
        bits = row-swap t.work l r _ _ _ _ b.bits;
        made = b.made;
        written = b.written;
        current = b.current;
        none0 = refl;
        none1 = b.none1;
        quiet = λ h. let q = b.quiet h in (record { layers0 = q.0.layers0; layers1 = q.0.layers1; rows0 = q.0.rows1; rows1 = q.0.rows0 }, q.1);
        begun = b.begun;
      }

  pub layer-end-kept : (l r z : ℕ) (s : Mesh Cache) (t : Held) → Border l r s t
      → Border (1 - l) r ((hooks (crate n)).layer_end z s) (record { work = clear_held n r n t.work; made = t.made; written = t.written })
  unfolding hooks crate advance_layer
  layer-end-kept l r z s t b =
      record {
        bits = layer-swap (clear_held n r n t.work) l r _ _ _ _ (row-cleared t.work l r _ _ _ _ b.bits);
        made = b.made;
        written = b.written;
        current = b.current;
        none0 = refl;
        none1 = b.none1;
        quiet = λ h. let q = b.quiet h in (record { layers0 = q.0.layers1; layers1 = q.0.layers0; rows0 = λ u d. refl; rows1 = q.0.rows1 }, q.1);
        begun = b.begun;
      }

  -- words that are all zero are the cache at its start
  pub start-border : ((i : ℕ) → i < held_room n → get_or old i 0 ≡ 0) → Border 0 0 (empty fresh) (record { work = old; made = 0; written = 0 })
  unfolding fresh
  start-border zeros =
      record {
        bits =
            record {
              l_le = omega arith;
              r-le = omega arith;
              size = refl;
              tail = refl;
              lay0 = λ p d hp hd. no-bit (get_or old (2 * p + 0) 0) (4 + d) (zeros (2 * p + 0) (omega arith));
              lay1 = λ p d hp hd. no-bit (get_or old (2 * p + (1 - 0)) 0) (4 + d) (zeros (2 * p + (1 - 0)) (omega arith));
              row0 = λ u d hu hd. no-bit (get_or old (row_word n 0 u) 0) (put_place d) (zeros (row_word n 0 u) (omega arith));
              row1 = λ u d hu hd. no-bit (get_or old (row_word n (1 - 0) u) 0) (put_place d) (zeros (row_word n (1 - 0) u) (omega arith));
            };
        made = refl;
        written = refl;
        current = λ e. refl;
        none0 = refl;
        none1 = refl;
        quiet = λ h. (record { layers0 = λ p d. refl; layers1 = λ p d. refl; rows0 = λ u d. refl; rows1 = λ u d. refl }, refl);
        begun = λ h. absurd (not-suc-le-zero h);
      }
