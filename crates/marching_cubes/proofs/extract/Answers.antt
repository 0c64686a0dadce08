-- `extract`: a grid that is accepted is meshed.
use mathlib.Core.Path.{◌≡◌, sym, ◌∙◌}
use Prim.Native.Nat.{◌≤◌}
use Rattle.outcome.specs.Outcome.{Outcome, filled, surface_of}
use Rattle.marching_cubes.proofs.ByCause.{accepted}
use Rattle.marching_cubes.proofs.Known.{word-le}
use Rattle.marching_cubes.proofs.extract.Goals as goal

-- over plain variables: among the records of the walk the two equations are dear to join
joined : (o p q : Outcome) → o ≡ q → p ≡ q → o ≡ p
joined o p q e f = e ∙ sym f

pub returns-in-Ok : goal.returns-in-Ok
returns-in-Ok c =
    let a = c.args in
    let accept = c.in-Ok.ensures.accepted in
    let size = accept.1 in
    let known : a.numbering ≤ 1 = rw (sym accept.2) (word-le c.in-Ok.known) in
    let surface = surface_of a.size a.numbering a.samples.now in
    let meshed = rw (accept.0, accept.2) at c.meshed.ensures in
    record {
      whole = joined _ _ (filled a.size a.numbering a.samples.now a.work.now a.vertices.now a.indices.now surface) meshed
          (accepted a.size a.numbering a.samples.now a.work.now a.vertices.now a.indices.now size.least size.most known size.samples-whole size.work-room accept.3);
    }
