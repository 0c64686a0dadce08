-- `checked`: the tests in the order of the causes.
use mathlib.Core.Path.{◌≡◌, sym, ◌∙◌}
use Prim.Native.Nat.{◌+◌, ◌*◌}
use native.Mathlib.Omega.{arith}
use lib.ListN.{length}
use borrow.Author.Tests.{ltb-true, ltb-false}
use Rattle.numbering.specs.Word.{numbering_in}
use Rattle.sample_check.specs.Samples.{any_bad, lowest_bad}
use Rattle.sample_check.proofs.Samples.{any_bad-lowest_bad}
use Rattle.marching_cubes.proofs.ByCause.{size-outside, numbering-over, samples-not-whole, work-short, sample-bad}
use Rattle.marching_cubes.proofs.Known.{known-word, unknown-word, of-error, bad-at, none-bad}
use Rattle.marching_cubes.proofs.checked.Goals as goal

pub returns-in_err-grid-clause-refused : goal.returns-in_err-grid-clause-refused
returns-in_err-grid-clause-refused c =
    let a = c.args in
    let refused = c.in_err-grid.ensures in
    of-error c.from_residual.result c.from_residual.ensures.1
    (λ refusal same. λ vertices indices.
    rw (same, refused.0) (size-outside a.size a.numbering a.samples.now a.work.now vertices indices refused.1))

pub returns-in_err-known-clause-refused : goal.returns-in_err-known-clause-refused
returns-in_err-known-clause-refused c =
    let a = c.args in
    let grid = c.in_ok-grid.grid in
    let is = c.in_ok-grid.ensures in
    let taken : c.try_from-2.result ≡ numbering_in a.numbering = grind arith in
    let unknown = unknown-word a.numbering _ (sym taken ∙ c.in_err-known.was) in
    of-error c.from_residual-in_err-known.result c.from_residual-in_err-known.ensures.1
    (λ refusal same. λ vertices indices.
    rw (same, sym unknown.1, sym unknown.2)
    (numbering-over a.size a.numbering a.samples.now a.work.now vertices indices (rw is at grid.least) (rw is at grid.most) unknown.0))

pub returns-then-samples-count-clause-refused : goal.returns-then-samples-count-clause-refused
returns-then-samples-count-clause-refused c = λ vertices indices.
    let a = c.args in
    let grid = c.in_ok-grid.grid in
    let is = c.in_ok-grid.ensures in
    let whole : c.samples-count.result ≡ a.size * a.size * (a.size + 1) = rw is at c.samples-count.ensures in
    let taken : c.try_from-2.result ≡ numbering_in a.numbering = grind arith in
    let known = known-word a.numbering _ (sym taken ∙ c.in_ok-known.was) in
    samples-not-whole a.size a.numbering a.samples.now a.work.now vertices indices (rw is at grid.least) (rw is at grid.most) known.1 (λ e. c.if-samples-count.true (omega (arith, e, whole)))

pub returns-then-work-work_room-clause-refused : goal.returns-then-work-work_room-clause-refused
returns-then-work-work_room-clause-refused c = λ vertices indices.
    let a = c.args in
    let grid = c.in_ok-grid.grid in
    let is = c.in_ok-grid.ensures in
    let whole : c.samples-count.result ≡ a.size * a.size * (a.size + 1) = rw is at c.samples-count.ensures in
    let taken : c.try_from-2.result ≡ numbering_in a.numbering = grind arith in
    let known = known-word a.numbering _ (sym taken ∙ c.in_ok-known.was) in
    work-short a.size a.numbering a.samples.now a.work.now vertices indices (rw is at grid.least) (rw is at grid.most) known.1 (omega (arith, whole, c.if-samples-count.false)) (rw (c.work_room.ensures, is) at c.if-work-work_room.true)

pub returns-in-Some-clause-refused : goal.returns-in-Some-clause-refused
returns-in-Some-clause-refused c = λ vertices indices.
    let a = c.args in
    let grid = c.in_ok-grid.grid in
    let is = c.in_ok-grid.ensures in
    let whole : c.samples-count.result ≡ a.size * a.size * (a.size + 1) = rw is at c.samples-count.ensures in
    let taken : c.try_from-2.result ≡ numbering_in a.numbering = grind arith in
    let known = known-word a.numbering _ (sym taken ∙ c.in_ok-known.was) in
    let found = bad-at (any_bad a.samples.now) (lowest_bad a.samples.now) _ (sym c.first_refused.ensures ∙ c.in-Some.is) in
    let bad = ltb-true (lowest_bad a.samples.now) (length a.samples.now) (sym (any_bad-lowest_bad a.samples.now) ∙ found.0) in
    rw (sym found.1)
    (sample-bad a.size a.numbering a.samples.now a.work.now vertices indices (rw is at grid.least) (rw is at grid.most) known.1 (omega (arith, whole, c.if-samples-count.false)) (rw (c.work_room.ensures, is) at c.if-work-work_room.false) bad)

pub returns-clause-accepted : goal.returns-clause-accepted
returns-clause-accepted c =
    let a = c.args in
    let grid = c.in_ok-grid.grid in
    let is = c.in_ok-grid.ensures in
    let whole : c.samples-count.result ≡ a.size * a.size * (a.size + 1) = rw is at c.samples-count.ensures in
    let taken : c.try_from-2.result ≡ numbering_in a.numbering = grind arith in
    let known = known-word a.numbering _ (sym taken ∙ c.in_ok-known.was) in
    let none = sym (any_bad-lowest_bad a.samples.now) ∙ none-bad (any_bad a.samples.now) (lowest_bad a.samples.now) (sym c.first_refused.ensures ∙ c.in_default.is) in (
      is,
      record {
        least = rw is at grid.least;
        most = rw is at grid.most;
        samples-whole = omega (arith, whole, c.if-samples-count.false);
        work-room = rw (c.work_room.ensures, is) at c.if-work-work_room.false;
      },
      known.0,
      ltb-false (lowest_bad a.samples.now) (length a.samples.now) none,
    )
