-- `meshed`: the causes of an accepted grid, from what `count` and `fill` promise.
use mathlib.Core.Path.{◌≡◌}
use native.Mathlib.Omega.{arith}
use lib.ListN.{length}
use Rattle.numbering.specs.Word.{word_of}
use Rattle.outcome.specs.Outcome.{work_room, surface_of}
use Rattle.marching_cubes.proofs.ByCause.{vertices-left, indices-left, done-left}
use Rattle.marching_cubes.proofs.AfterCount.{cleared-again, cleared-zeros, over_none, over-no-floats}
use Rattle.marching_cubes.proofs.meshed.Goals as goal

pub returns-then-vertices-floats : goal.returns-then-vertices-floats
returns-then-vertices-floats c =
    let args = c.args in
    let s = surface_of args.size.n (word_of args.numbering) args.samples.now in
    vertices-left args.size.n (word_of args.numbering) args.samples.now args.work.now args.vertices.now args.indices.now s _ _ c.counted.result _
    (rw c.word-word.ensures at c.count-reach.ensures.made_value.0) (rw c.word-word.ensures at c.count-reach.ensures.made_value.1) c.counted.ensures c.count-reach.ensures.work_after c.if-vertices-floats.true

pub returns-then-indices-counts : goal.returns-then-indices-counts
returns-then-indices-counts c =
    let args = c.args in
    let s = surface_of args.size.n (word_of args.numbering) args.samples.now in
    indices-left args.size.n (word_of args.numbering) args.samples.now args.work.now args.vertices.now args.indices.now s _ _ c.counted-then-indices-counts.result _
    (rw c.word-word.ensures at c.count-reach.ensures.made_value.0) (rw c.word-word.ensures at c.count-reach.ensures.made_value.1) c.counted-then-indices-counts.ensures c.count-reach.ensures.work_after c.if-vertices-floats.false c.if-indices-counts.true

-- a grid without a surface
pub returns-then-counts-eq0 : goal.returns-then-counts-eq0
returns-then-counts-eq0 c =
    let args = c.args in
    let s = surface_of args.size.n (word_of args.numbering) args.samples.now in
    let none = c.if-counts-eq0.true in
    let fewer = c.count-reach.result.counts.ordered in
    let made = rw c.word-word.ensures at c.count-reach.ensures.made_value.0 in
    let written = rw c.word-word.ensures at c.count-reach.ensures.made_value.1 in
    let no-vertices : length s.made ≡ 0 = omega (arith, none, fewer, made) in
    let no-indices : length s.indices ≡ 0 = omega (arith, none, written) in
    done-left args.size.n (word_of args.numbering) args.samples.now args.work.now args.vertices.now args.indices.now s _ _ c.counted-then-counts-eq0.result _ args.vertices.now args.indices.now
    made written c.counted-then-counts-eq0.ensures c.count-reach.ensures.work_after (over-no-floats args.size.n args.samples.now s args.vertices.now no-vertices) (over_none s.indices args.indices.now no-indices)
    (omega (arith, no-vertices)) (omega (arith, no-indices))

pub fill-requires : goal.fill-requires
fill-requires c =
    let made = c.count-reach.ensures.made_value.0 in
    let written = c.count-reach.ensures.made_value.1 in
    let floats = c.if-vertices-floats.false in
    let words = c.if-indices-counts.false in
    let pre = c.requires in
    record {
      accepted = (
        record { least = pre.least; most = pre.most; samples-whole = pre.samples-whole; work-room = omega (arith, pre.work-room) },
        cleared-zeros (work_room c.args.size.n) c.args.work.now _ c.count-reach.ensures.work_after,
      );
      grows_within = c.count-reach.ensures.grows_within;
      samples_in_bounds = (omega (arith, made, floats), omega (arith, written, words));
    }

pub returns : goal.returns
returns c =
    let args = c.args in
    let s = surface_of args.size.n (word_of args.numbering) args.samples.now in
    let made = rw c.word-word.ensures at c.count-reach.ensures.made_value.0 in
    let written = rw c.word-word.ensures at c.count-reach.ensures.made_value.1 in
    let floats = c.if-vertices-floats.false in
    let words = c.if-indices-counts.false in
    done-left args.size.n (word_of args.numbering) args.samples.now args.work.now args.vertices.now args.indices.now s _ _ c.counted-2.result _ _ _
    made written c.counted-2.ensures (cleared-again (work_room args.size.n) args.work.now _ _ c.count-reach.ensures.work_after c.fill.ensures.work_after) (rw c.word-word.ensures at c.fill.ensures.vertices_after) (rw c.word-word.ensures at c.fill.ensures.indices_after)
    (omega (arith, made, floats)) (omega (arith, written, words))
