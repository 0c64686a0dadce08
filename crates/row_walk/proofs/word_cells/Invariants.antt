-- `word_cells`: the cells before the lowest bit left are done or idle; that bit is the next cell.
use mathlib.Core.Path.{◌≡◌}
use lib.ListN.{length}
use Rattle.row_walk.proofs.WordLoop.{Walked}
use Rattle.row_walk.proofs.word_cells.Given as goal

abbrev pub invariant-loop-rest : goal.invariant-loop-rest
invariant-loop-rest g l = record {
  walked : Walked g.S.CellStep.step l.word.row.layer.size.n l.word.row.layer.samples.now l.word.row.layer.z l.word.row.y l.word.k
      (record { memory = l.initial.work; vertices = l.initial.vertices; indices = l.initial.indices; made = l.initial.made; written = l.initial.written })
      (record { memory = l.work; vertices = l.vertices; indices = l.indices; made = l.made; written = l.written }) l.mask l.rest;
  work-same : length l.work ≡ length l.initial.work;
  vertices-same : length l.vertices ≡ length l.initial.vertices;
  indices-same : length l.indices ≡ length l.initial.indices;
}

abbrev pub decreases-loop-rest : goal.decreases-loop-rest
decreases-loop-rest g l = l.rest
