-- What a word of the table says of its row: one test over the 256 words, and what it says of each.
use mathlib.Core.Path.{◌≡◌, refl, sym, subst}
use mathlib.Core.Bool.{Bool, true, ◌&&◌}
use mathlib.Core.List.{List, [], ◌∷◌}
use Prim.Native.Nat.{ℕ, ◌/◌, ◌%◌, ◌<◌}
use native.Mathlib.Omega.{arith}
use lib.Dec.{T, eqb, eqb→eq}
use lib.ListN.{length, get_or}
use Rattle.marching_cubes_tables.specs.Tables.{triangle_connection, row}
use Rattle.marching_cubes_tables.specs.Rule.{named, row_edges, bit_at, member}
use Rattle.marching_cubes_tables.proofs.Rule.{row-rule}
use Rattle.marching_cubes_tables.proofs.Tests.{both_left, both_right}
use Rattle.marching_cubes_tables.proofs.Rows.{every, every-at}
use Rattle.walk.specs.Walk.{bit}
use Rattle.walk.proofs.Below.{all_below, all_below-at}
use Rattle.packed_tables.specs.Unpacked.{Edges}
use Rattle.packed_tables.proofs.PackedEdges.{edges-of-each}
use Rattle.held_bits.specs.Names.{name_words}
use Rattle.held_bits.proofs.EdgeSets.{edge_at, Has}

-- the entries after the first, and how many the first is
abbrev pub after_first : List ℕ → List ℕ
after_first [] = []
after_first (e ∷ es) = es

abbrev pub first : List ℕ → ℕ
first [] = 0
first (e ∷ es) = 1

pub record Names (word : ℕ) (es : List ℕ) : Type 0 where
  pub all : Has (word % 4096) (λ e. member e es)
  pub later : Has (word / 65536 % 4096) (λ e. member e (after_first es))
  pub count : word / 4096 % 16 ≡ length es
  pub one : word / 268435456 ≡ first es
  pub none : length es ≡ 0 → word ≡ 0
  pub edges : Edges es

-- ---- the test

abbrev bit_right : ℕ → List ℕ → ℕ → Bool
bit_right set es i = eqb (bit_at set i) (bit (member (edge_at i) es))

abbrev zero_if_none : List ℕ → ℕ → Bool
zero_if_none [] word = eqb word 0
zero_if_none (e ∷ es) word = true

abbrev right_for : ℕ → List ℕ → Bool
right_for word es =
    eqb (word / 4096 % 16) (length es)
    && (eqb (word / 268435456) (first es)
    && (zero_if_none es word && (all_below 12 (bit_right (word % 4096) es) && all_below 12 (bit_right (word / 65536 % 4096) (after_first es)))))

abbrev right : ℕ → ℕ → Bool
right s word = right_for word (named (row s))

all_right : T (every right 0 name_words)
unfolding name_words triangle_connection
all_right = tt

words-length : length name_words ≡ 256
unfolding name_words
words-length = refl

-- ---- what a passed test says

none-zero : (es : List ℕ) (word : ℕ) → T (zero_if_none es word) → length es ≡ 0 → word ≡ 0
none-zero [] word t h = eqb→eq word 0 t
none-zero (e ∷ es) word t h = absurd (omega arith)

passed : (word : ℕ) (es : List ℕ) → T (right_for word es) → Edges es → Names word es
passed word es t each =
    let b1 = eqb (word / 4096 % 16) (length es) in
    let b2 = eqb (word / 268435456) (first es) in
    let b3 = zero_if_none es word in
    let b4 = all_below 12 (bit_right (word % 4096) es) in
    let b5 = all_below 12 (bit_right (word / 65536 % 4096) (after_first es)) in
    let t2 : T (b2 && (b3 && (b4 && b5))) = both_right b1 (b2 && (b3 && (b4 && b5))) t in
    let t3 : T (b3 && (b4 && b5)) = both_right b2 (b3 && (b4 && b5)) t2 in
    let t4 : T (b4 && b5) = both_right b3 (b4 && b5) t3 in
    record {
      all = λ i h. eqb→eq _ _ (all_below-at 12 (bit_right (word % 4096) es) (both_left b4 b5 t4) i h);
      later = λ i h. eqb→eq _ _ (all_below-at 12 (bit_right (word / 65536 % 4096) (after_first es)) (both_right b4 b5 t4) i h);
      count = eqb→eq _ _ (both_left b1 (b2 && (b3 && (b4 && b5))) t);
      one = eqb→eq _ _ (both_left b2 (b3 && (b4 && b5)) t2);
      none = none-zero es word (both_left b3 (b4 && b5) t3);
      edges = each;
    }

pub name-word : (s : ℕ) → s < 256 → Names (get_or name_words s 0) (row_edges s)
unfolding row_edges
name-word s h =
    passed (get_or name_words s 0) (named (row s)) (every-at right 0 name_words all_right s (subst (λ (n : ℕ). s < n) (sym words-length) h))
    (edges-of-each (named (row s)) (row-rule s h).edge)

pub after-edges : (es : List ℕ) → Edges es → Edges (after_first es)
unfolding Edges
after-edges [] h = tt
after-edges (e ∷ es) h = h.1
