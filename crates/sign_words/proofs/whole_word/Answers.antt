-- `whole_word`: after i turns the first i bits are the signs of their samples, and the others are still set.
use mathlib.Core.Path.{◌≡◌, ap, ◌∙◌}
use Prim.Native.Nat.{ℕ}
use native.Mathlib.Omega.{arith}
use Rattle.sign_words.specs.Words.{word_of}
use Rattle.sign_words.proofs.KeptBits.{still, still-none, still-all, still-turn}
use Rattle.sign_words.proofs.whole_word.Invariants.{sign}
use Rattle.sign_words.proofs.whole_word.Goals as goal

pub loop-i-init : goal.loop-i-init
loop-i-init c = still-none (sign c.args.samples.now)

pub loop-i-preserved : goal.loop-i-preserved
loop-i-preserved c =
    still-turn (sign c.args.samples.now) c.loop-i.i c.loop-i.word c.kept-word.result c.is_inside.result c.loop-i.invariant c.kept-word.ensures c.is_inside.ensures

pub returns : goal.returns
returns c =
    let signs = sign c.args.samples.now in
    let all : c.loop-i.i ≡ 32 = omega arith in
    c.loop-i.invariant ∙ ap (λ (i : ℕ). word_of (still signs i) 32) all ∙ still-all signs
