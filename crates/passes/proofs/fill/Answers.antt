-- `fill`: the layers of the span are walked over the outputs, then the working memory is cleared.
use mathlib.Core.Path.{sym}
use native.Mathlib.Nat.{le_of_eq}
use borrow.Author.Rules.{rules}
use Rattle.passes.proofs.Passes.{filled-pass}
use Rattle.passes.proofs.fill.Goals as goal

pub walk-requires : goal.walk-requires
walk-requires c =
    let pre = c.requires.accepted.0 in
    record {
      rooms = (le_of_eq (sym pre.samples-whole), pre.work-room);
      grows_within = (c.requires.grows_within, c.requires.accepted.1);
    }

pub returns : goal.returns
returns c =
    let pass =
    filled-pass _ _ _ _ _ _ _ _ _ _ c.work_room.ensures c.requires.accepted.0.work-room (search rules) c.requires.accepted.1 c.requires.grows_within c.requires.samples_in_bounds.0 c.requires.samples_in_bounds.1 c.walk.ensures.result_after c.clear.ensures in
    record {
      work_after = pass.0;
      vertices_after = pass.1;
      indices_after = pass.2;
    }
