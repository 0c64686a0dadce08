-- `check_contents`: the vertices are searched before the indices, which will lie after them.
use mathlib.Core.Path.{◌≡◌, sym, ◌∙◌}
use Rattle.std.proofs.Common.{rules, tests, not}
use Rattle.std.specs.List.{position}
use Rattle.std.proofs.lemmas.Iterator.{YieldsList-from_slice}
use Rattle.std.proofs.lemmas.Iterator.Search.{position_from_yields_List}
use lib.ListN.{length}
use lib.Ieee.{binary32, to_bits}
use Prim.Native.Nat.{◌/◌}
use Rattle.mesh_record.specs.Mesh.{finite, below}
use Rattle.mesh_record.proofs.LowestBad.{lowest_bad-map, position-lowest_bad}
use Rattle.mesh_write.proofs.Meshes.{contents_of-coordinate, contents_of-index, contents_of-passed}
use Rattle.mesh_write.proofs.check_contents.Goals as goal

pub returns-in-Some : goal.returns-in-Some
returns-in-Some c =
    let coordinates = c.args.coordinates.now in
    let found : c.position-bad_coordinate.result ≡ position (λ x. not (finite (to_bits binary32 x))) coordinates =
    position_from_yields_List (λ x. not (finite (to_bits binary32 x))) _ _ c.position-bad_coordinate.result c.position-bad_coordinate.ensures.ran
    (YieldsList-from_slice coordinates cc) (λ x b q k. search (rules, tests)) in
    contents_of-coordinate coordinates c.args.indices.now c.in-Some.i (sym c.in-Some.is ∙ found ∙ lowest_bad-map (to_bits binary32) finite coordinates)

pub returns-in-Some-bad_index : goal.returns-in-Some-bad_index
returns-in-Some-bad_index c =
    let coordinates = c.args.coordinates.now in
    let indices = c.args.indices.now in
    let found : c.position-bad_coordinate.result ≡ position (λ x. not (finite (to_bits binary32 x))) coordinates =
    position_from_yields_List (λ x. not (finite (to_bits binary32 x))) _ _ c.position-bad_coordinate.result c.position-bad_coordinate.ensures.ran
    (YieldsList-from_slice coordinates cc) (λ x b q k. search (rules, tests)) in
    let found-index : c.position-bad_index.result ≡ position (λ w. not (below (length coordinates / 3) w)) indices =
    position_from_yields_List (λ w. not (below (length coordinates / 3) w)) _ _ c.position-bad_index.result c.position-bad_index.ensures.ran
    (YieldsList-from_slice indices cc) (λ x b q k. search (rules, tests)) in
    contents_of-index coordinates indices (sym c.in_default.is ∙ found ∙ lowest_bad-map (to_bits binary32) finite coordinates)
    c.in-Some-bad_index.i (sym c.in-Some-bad_index.is ∙ found-index ∙ position-lowest_bad (below (length coordinates / 3)) indices)

pub returns : goal.returns
returns c =
    let coordinates = c.args.coordinates.now in
    let indices = c.args.indices.now in
    let found : c.position-bad_coordinate.result ≡ position (λ x. not (finite (to_bits binary32 x))) coordinates =
    position_from_yields_List (λ x. not (finite (to_bits binary32 x))) _ _ c.position-bad_coordinate.result c.position-bad_coordinate.ensures.ran
    (YieldsList-from_slice coordinates cc) (λ x b q k. search (rules, tests)) in
    let found-index : c.position-bad_index.result ≡ position (λ w. not (below (length coordinates / 3) w)) indices =
    position_from_yields_List (λ w. not (below (length coordinates / 3) w)) _ _ c.position-bad_index.result c.position-bad_index.ensures.ran
    (YieldsList-from_slice indices cc) (λ x b q k. search (rules, tests)) in
    contents_of-passed coordinates indices (sym c.in_default.is ∙ found ∙ lowest_bad-map (to_bits binary32) finite coordinates)
    (sym c.in_default-bad_index.is ∙ found-index ∙ position-lowest_bad (below (length coordinates / 3)) indices)
