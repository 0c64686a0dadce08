-- `tally_layer`: the rows outside add nothing; row 0 has edges of its own, and the others are alike.
use mathlib.Core.Path.{◌≡◌, ◌∙◌, sym}
use Prim.Native.Nat.{ℕ, ◌/◌, ◌≤◌, ◌<◌}
use native.Mathlib.Omega.{arith}
use lib.Dec.{eqb}
use borrow.Author.Tests.{eq-eqb, ne_eqb}
use Rattle.lent_mesh.specs.Grid.{inside_of}
use Rattle.cell_tally.specs.Tally.{is_set}
use Rattle.layer_tally.proofs.MaskBits.{every_set, none-set}
use Rattle.layer_tally.proofs.WordSteps.{layer-from, layer-begun}
use Rattle.layer_tally.proofs.tally_layer.Goals as goal

-- `top` in row 0 and in the rows after it
top-first : (i j : ℕ) → i < 4 → j < 32 → is_set 0xFFFF_FFFF j ≡ eqb (i / 4) 0
top-first i j b l = every_set j l ∙ sym (eq-eqb (i / 4) 0 (omega (arith, b)))

top-after : (i j : ℕ) → 4 ≤ i → is_set 0 j ≡ eqb (i / 4) 0
top-after i j a = none-set j ∙ sym (ne_eqb (i / 4) 0 (λ e. omega (arith, a, e)))

pub returns-then-first-eq0-clause-layer_counted : goal.returns-then-first-eq0-clause-layer_counted
returns-then-first-eq0-clause-layer_counted c samples z lower upper above =
    let masks = c.args.masks.now in
    layer-begun (inside_of masks.size.n samples) masks.size.n z _ _ _ masks.size.least masks.size.most
    (c.tally_words-begun.ensures.words_counted samples z lower upper above (λ i j a b l. top-first i j b l))
    (c.tally_words.ensures.words_counted samples z lower upper above (λ i j a b l. top-after i j a))

pub returns-else-first-eq0-clause-layer_counted : goal.returns-else-first-eq0-clause-layer_counted
returns-else-first-eq0-clause-layer_counted c samples z lower upper above =
    let masks = c.args.masks.now in
    let rows = c.rows_outside-first.ensures in
    layer-from (inside_of masks.size.n samples) masks.size.n z c.rows_outside-first.result _ _ masks.size.most rows.1 (λ x y h l. rows.0 samples z lower upper x y h l)
    (c.tally_words-else-first-eq0.ensures.words_counted samples z lower upper above (λ i j a b l. top-after i j (omega (arith, c.if-first-eq0.false, a))))
