-- The one-edge answer as it crosses the C boundary: its kind beside document 01's cause, place and offset.
use Rattle.std.specs.Prelude.{ℕ}
use Rattle.marching_cubes_impl.specs.declared.edge.Crossing.{Crossing}
use Rattle.marching_cubes_impl.specs.declared.edge.Crossing.TheVariants.{Absent, At, Refused}
use Rattle.marching_cubes_impl.specs.Edge.{cause_of, place_of, offset_in}
use Rattle.edge_answer.specs.declared.EdgeAnswer.{EdgeAnswer}

abbrev pub kind_of : Crossing → ℕ
kind_of Absent = 0
kind_of (At t) = 1
kind_of (Refused place) = 2

abbrev pub edge_answer : Crossing → EdgeAnswer
edge_answer c = record { kind = kind_of c; cause = cause_of c; place = place_of c; offset = offset_in c }
