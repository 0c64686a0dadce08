-- `firsts`: after y turns the first cells of y rows are set.
use mathlib.Core.Path.{◌≡◌, refl, ◌∙◌, subst}
use Prim.Native.Nat.{ℕ, ◌*◌}
use native.Mathlib.Omega.{arith}
use lib.ListN.{length-set, get_or-replicate}
use Rattle.layer_tally.proofs.MaskBits.{FirstsMade, firsts-turn, firsts-all}
use Rattle.layer_tally.proofs.firsts.Goals as goal

pub loop-y-init : goal.loop-y-init
loop-y-init c = (refl, (λ k h. absurd (omega arith), λ i h l. get_or-replicate 513 i 0 0 h))

pub loop-y-preserved : goal.loop-y-preserved
loop-y-preserved c =
    let all = c.loop-y.all in
    let y = c.loop-y.y in
    let made = c.loop-y.invariant in
    (length-set all (4 * y) 1 ∙ made.0, firsts-turn y all made.0 (omega arith) made.1)

pub returns : goal.returns
returns c =
    let all = c.loop-y.all in
    let rows : c.loop-y.y ≡ 128 = omega arith in
    firsts-all all (subst (λ (y : ℕ). FirstsMade y all) rows c.loop-y.invariant.1)
