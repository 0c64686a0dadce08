-- `count`: from nothing held, and cleared afterwards.
use Rattle.passes.proofs.Passes.{counted-pass, counted-span}
use Rattle.passes.proofs.count.Goals as goal

pub returns : goal.returns
returns c =
    let pass =
    counted-pass _ c.args.numbering c.args.samples.now _ c.args.work.now _ _ _ c.work_room.ensures c.requires.work-room c.hold_nothing.ensures
    c.count_grid-reach.ensures.counts_value c.clear.ensures in
    let span = counted-span _ c.args.numbering c.args.samples.now c.args.work.now _ _ c.requires.work-room c.hold_nothing.ensures c.count_grid-reach.ensures.grows_within in
    record {
      work_after = pass.0;
      made_value = (pass.1, pass.2);
      grows_within = span;
      written_bound = c.count_grid-reach.ensures.written_bound;
    }
