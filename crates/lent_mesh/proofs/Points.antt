-- `put_point` by whether there is room, and that two vertices may be put in either order.
use mathlib.Core.Path.{◌≡◌, refl, sym, ap, ◌∙◌}
use mathlib.Core.Bool.{Bool, true, false, cond}
use lib.Dec.{ltb}
use Prim.Native.Nat.{ℕ, ◌+◌, ◌*◌, ◌≤◌, ◌<◌}
use native.Mathlib.Omega.{arith}
use lib.ListN.{length, set, length-set}
use lib.Seq.{set_comm}
use lib.Ieee.{Float}
use mathlib.Core.List.{List}
use borrow.Author.Tests.{lt-ltb, le-ltb}
use Rattle.marching_cubes_impl.specs.declared.vertex.Vertex.{Vertex}
use Rattle.lent_mesh.specs.Stored.{put_point}

pub put_point-room : (floats : List Float) (k : ℕ) (p : Vertex) → 3 * k + 2 < length floats
    → put_point floats k p ≡ set (set (set floats (3 * k) p.x) (3 * k + 1) p.y) (3 * k + 2) p.z
unfolding put_point
put_point-room floats k p h = rw (lt-ltb (3 * k + 2) (length floats) h)

pub put_point-full : (floats : List Float) (k : ℕ) (p : Vertex) → length floats ≤ 3 * k + 2 → put_point floats k p ≡ floats
unfolding put_point
put_point-full floats k p h = rw (le-ltb (3 * k + 2) (length floats) h)

pub put_point-length : (floats : List Float) (k : ℕ) (p : Vertex) → length (put_point floats k p) ≡ length floats
unfolding put_point
put_point-length floats k p = kept (ltb (3 * k + 2) (length floats))
  where
    kept : (b : Bool) → length (cond b (set (set (set floats (3 * k) p.x) (3 * k + 1) p.y) (3 * k + 2) p.z) floats) ≡ length floats
    kept true = simp length-set
    kept false = refl

-- ---- either order

-- three floats from the place i on
abbrev three : List Float → ℕ → Vertex → List Float
three floats i p = set (set (set floats i p.x) (i + 1) p.y) (i + 2) p.z

three-set : (floats : List Float) (i j : ℕ) (p : Vertex) (a : Float) → (i ≡ j → ⊥) → (i + 1 ≡ j → ⊥) → (i + 2 ≡ j → ⊥)
    → set (three floats i p) j a ≡ three (set floats j a) i p
three-set floats i j p a f g h =
    set_comm (set (set floats i p.x) (i + 1) p.y) (i + 2) j p.z a h
    ∙ ap (λ (l : List Float). set l (i + 2) p.z) (set_comm (set floats i p.x) (i + 1) j p.y a g)
    ∙ ap (λ (l : List Float). set (set l (i + 1) p.y) (i + 2) p.z) (set_comm floats i j p.x a f)

three-three : (floats : List Float) (i j : ℕ) (p q : Vertex) → (i ≡ j → ⊥) → three (three floats (3 * i) p) (3 * j) q ≡ three (three floats (3 * j) q) (3 * i) p
three-three floats i j p q h =
    ap (λ (l : List Float). set (set l (3 * j + 1) q.y) (3 * j + 2) q.z)
    (three-set floats (3 * i) (3 * j) p q.x (λ e. h (omega arith)) (λ e. h (omega arith)) (λ e. h (omega arith)))
    ∙ ap (λ (l : List Float). set l (3 * j + 2) q.z)
    (three-set (set floats (3 * j) q.x) (3 * i) (3 * j + 1) p q.y (λ e. h (omega arith)) (λ e. h (omega arith)) (λ e. h (omega arith)))
    ∙ three-set (set (set floats (3 * j) q.x) (3 * j + 1) q.y) (3 * i) (3 * j + 2) p q.z (λ e. h (omega arith)) (λ e. h (omega arith)) (λ e. h (omega arith))

-- where there is room
abbrev put : Bool → List Float → ℕ → Vertex → List Float
put b floats k p = cond b (three floats (3 * k) p) floats

put-put : (a b : Bool) (floats : List Float) (i j : ℕ) (p q : Vertex) → (i ≡ j → ⊥) → put b (put a floats i p) j q ≡ put a (put b floats j q) i p
put-put true true floats i j p q h = three-three floats i j p q h
put-put true false floats i j p q h = refl
put-put false true floats i j p q h = refl
put-put false false floats i j p q h = refl

put_point-twice : (floats : List Float) (i j : ℕ) (p q : Vertex)
    → put_point (put_point floats i p) j q ≡ put (ltb (3 * j + 2) (length floats)) (put (ltb (3 * i + 2) (length floats)) floats i p) j q
unfolding put_point
put_point-twice floats i j p q = ap (λ (k : ℕ). put (ltb (3 * j + 2) k) (put_point floats i p) j q) (put_point-length floats i p)

pub put_point-exchange : (floats : List Float) (i j : ℕ) (p q : Vertex) → (i ≡ j → ⊥)
    → put_point (put_point floats i p) j q ≡ put_point (put_point floats j q) i p
put_point-exchange floats i j p q h =
    put_point-twice floats i j p q
    ∙ put-put (ltb (3 * i + 2) (length floats)) (ltb (3 * j + 2) (length floats)) floats i j p q h
    ∙ sym (put_point-twice floats j i q p)
