-- `put_three`: room for three, or each is put by itself.
use mathlib.Core.Path.{◌≡◌, ◌∙◌, ap}
use mathlib.Core.List.{List}
use Prim.Native.Nat.{ℕ, ◌+◌}
use lib.ListN.{set}
use Rattle.lent_mesh.proofs.put_three.Goals as goal

one_by_one : (l k m o : List ℕ) (place a b c : ℕ) → k ≡ set l place a → m ≡ set k (place + 1) b → o ≡ set m (place + 2) c
    → o ≡ set (set (set l place a) (place + 1) b) (place + 2) c
one_by_one l k m o place a b c p q r =
    r ∙ ap (λ (x : List ℕ). set x (place + 2) c) (q ∙ ap (λ (x : List ℕ). set x (place + 1) b) p)

pub returns-else-at-indices : goal.returns-else-at-indices
returns-else-at-indices c =
    let args = c.args in
    one_by_one args.indices.now _ _ _ args.place args.a args.b args.c c.put_index.ensures c.put_index-else-at-indices.ensures c.put_index-else-at-indices-2.ensures
