-- What the listing program writes for the bytes that it reads: document 01, "Record and listing".
use Rattle.std.specs.Prelude.{cond, List, map, ℕ, eqb, ltb, length, Float}
use Rattle.sample_record.specs.Record.{record_of, cause_of, place_of, size_of, numbering_of}
use Rattle.record_samples.specs.Samples.{samples_of}
use Rattle.sample_check.specs.Samples.{lowest_bad}
use Rattle.lent_mesh.specs.Grid.{position_at, floats_of}
use Rattle.outcome.specs.Outcome.{surface_of}
use Rattle.listing_text.specs.Lines.{refused_line, mesh_text}

-- the mesh of an accepted grid, or cause 5
abbrev pub grid_text : ℕ → ℕ → List Float → List ℕ
grid_text size numbering samples =
    let mesh = surface_of size numbering samples in
    cond (ltb (lowest_bad samples) (length samples)) (refused_line 5 (lowest_bad samples))
    (mesh_text size numbering (floats_of (map (position_at size samples) mesh.made)) mesh.indices)

-- sizes 2 to 7
abbrev pub listing_of : List ℕ → List ℕ
listing_of bytes =
    let answer = record_of 7 bytes in
    cond (eqb (cause_of answer) 0) (grid_text (size_of answer) (numbering_of answer) (samples_of bytes)) (refused_line (cause_of answer) (place_of answer))
