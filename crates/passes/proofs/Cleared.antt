-- Working memory of which the first k words are zero. For the two passes, and for what comes between them in the crate `marching_cubes`.
use mathlib.Core.Path.{◌≡◌, sym, ap, ◌∙◌}
use mathlib.Core.List.{List, ◌++◌}
use Prim.Native.Nat.{ℕ, ◌≤◌, ◌<◌}
use native.Mathlib.Omega.{arith}
use lib.ListN.{length, get_or, drop, replicate, length-replicate, get_or-replicate, length-append, length-drop, get_or-append}
use lib.Seq.{drop-append_seam}
use Rattle.outcome.specs.Outcome.{over}

abbrev pub cleared : ℕ → List ℕ → List ℕ
cleared k work = over (replicate k 0) work

zeros-length : (k : ℕ) → length {A = ℕ} (replicate k 0) ≡ k
zeros-length k = length-replicate k 0

pub cleared_at : (k : ℕ) (work : List ℕ) (i : ℕ) → i < k → get_or (cleared k work) i 0 ≡ 0
cleared_at k work i h =
    let l : i < length {A = ℕ} (replicate k 0) = omega (arith, zeros-length k) in
    get_or-append (replicate k 0) (drop (length {A = ℕ} (replicate k 0)) work) 0 i l ∙ get_or-replicate k i 0 0 h

pub cleared-tail : (k : ℕ) (work : List ℕ) → drop k (cleared k work) ≡ drop k work
cleared-tail k work =
    ap (λ (j : ℕ). drop j (cleared k work)) (sym (zeros-length k)) ∙ drop-append_seam (replicate k 0) (drop (length {A = ℕ} (replicate k 0)) work) ∙ ap (λ (j : ℕ). drop j work) (zeros-length k)

pub cleared-same : (k : ℕ) (work old : List ℕ) → drop k work ≡ drop k old → cleared k work ≡ cleared k old
cleared-same k work old e =
    ap (λ (j : ℕ). replicate k 0 ++ drop j work) (zeros-length k) ∙ ap (λ (l : List ℕ). replicate k 0 ++ l) e ∙ ap (λ (j : ℕ). replicate k 0 ++ drop j old) (sym (zeros-length k))

pub cleared-length : (k : ℕ) (work : List ℕ) → k ≤ length work → length (cleared k work) ≡ length work
cleared-length k work h =
    let l = zeros-length k in
    length-append (replicate k 0) (drop (length {A = ℕ} (replicate k 0)) work) ∙ simp length-drop (omega arith)
