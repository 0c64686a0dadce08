-- `put_lines`: a turn puts one line more, and after the last turn fewer than three words are left.
use Rattle.std.proofs.Common.{◌≤◌, ◌<◌, length, arith, ap, ◌∙◌, length-append}
use Rattle.listing_runs.proofs.Runs.{listed-more, room-more, all-listed}
use Rattle.listing_runs.proofs.put_lines.Goals as goal

pub put_line-requires : goal.put_line-requires
put_line-requires g c =
    let steps = c.in-Some.ensures.steps in
    let left = ap length steps.1.0 in
    let some : 3 ≤ length c.loop-three.three-iterator.rest.now = omega (arith, left, steps.1.1, c.loop-three.invariant.1, length-append c.in-Some.three.now c.next.new.self.rest.now) in
    room-more _ _ _ _ _ _ _ _ _ c.loop-three.invariant.0 some c.requires

pub loop-three-preserved : goal.loop-three-preserved
loop-three-preserved g c =
    let here = c.loop-three.invariant.0 in
    let steps = c.in-Some.ensures.steps in
    let more = listed-more _ _ _ _ _ _ _ _ _ here _ _ steps.1.0 (steps.1.1 ∙ c.loop-three.invariant.1) _ _ _ c.index-three-0.is c.index-three-1.is c.index-three-2.is c.put_line.ensures.puts c.put_line.ensures.upper_bound in
    (rw length-append more, steps.0 ∙ c.loop-three.invariant.1)

pub returns-clause-puts : goal.returns-clause-puts
returns-clause-puts g c =
    let few : length c.loop-three.three-iterator.rest.now < 3 = omega (arith, c.in-None.ensures.steps.1.0, c.loop-three.invariant.1) in
    (all-listed _ _ _ _ _ _ _ _ _ c.loop-three.invariant.0 few).puts

pub returns-clause-upper_bound : goal.returns-clause-upper_bound
returns-clause-upper_bound g c =
    let few : length c.loop-three.three-iterator.rest.now < 3 = omega (arith, c.in-None.ensures.steps.1.0, c.loop-three.invariant.1) in
    (all-listed _ _ _ _ _ _ _ _ _ c.loop-three.invariant.0 few).room
