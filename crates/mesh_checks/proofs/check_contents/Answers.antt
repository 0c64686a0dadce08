-- `check_contents`: the vertices are searched before the indices, which lie after them.
use mathlib.Core.Path.{◌≡◌, sym, ap, ap₂, ◌∙◌}
use mathlib.Core.List.{List}
use native.Mathlib.Omega.{arith}
use lib.ListN.{length}
use mathlib.Core.Bool.{not}
use Prim.Native.Nat.{ℕ, ◌+◌, ◌*◌}
use Rattle.std.proofs.Common.{rules, tests, w32}
use Rattle.std.specs.Int.{from_le_bytes}
use Rattle.std.specs.List.{position}
use Rattle.std.proofs.lemmas.Iterator.{YieldsList-from_slice}
use Rattle.std.proofs.lemmas.Iterator.Search.{position_from_yields_List}
use Rattle.mesh_record.specs.Mesh.{vertex_count, finite, below}
use Rattle.mesh_record.specs.Refusals.{malformed, lowest_bad}
use Rattle.mesh_record.proofs.LowestBad.{lowest_bad-map}
use Rattle.mesh_record.proofs.Contents.{contents-coordinate, contents-index, contents-none}
use Rattle.mesh_checks.specs.Reading.{mesh_in}
use Rattle.mesh_checks.proofs.Contents.{coordinates-words, indices-words, coordinates-length, mesh_in-vertices}
use Rattle.mesh_checks.proofs.check_contents.Goals as goal

pub returns-in-Some : goal.returns-in-Some
returns-in-Some c =
    let bytes = c.args.bytes.now in
    let chunks = c.as_chunks.result.0.now in
    let found : c.position-bad_coordinate.result ≡ position (λ w. not (finite (from_le_bytes w32 w))) chunks =
    position_from_yields_List (λ w. not (finite (from_le_bytes w32 w))) _ _ c.position-bad_coordinate.result c.position-bad_coordinate.ensures.ran
    (YieldsList-from_slice chunks cc) (λ x b q k. search (rules, tests)) in
    let bad : c.position-bad_coordinate.result ≡ lowest_bad finite (mesh_in bytes).coordinates =
    found ∙ lowest_bad-map (from_le_bytes w32) finite chunks
    ∙ ap (lowest_bad finite)
    (coordinates-words bytes c.requires c.split_at.result.0.now chunks c.as_chunks.ensures.front c.word_at-vertices.result c.word_at-vertices.ensures c.split_at.ensures.front) in
    contents-coordinate 28 (mesh_in bytes) c.in-Some.i (sym c.in-Some.is ∙ bad)

pub returns-in-Some-bad_index : goal.returns-in-Some-bad_index
returns-in-Some-bad_index c =
    let bytes = c.args.bytes.now in
    let chunks = c.as_chunks.result.0.now in
    let found : c.position-bad_coordinate.result ≡ position (λ w. not (finite (from_le_bytes w32 w))) chunks =
    position_from_yields_List (λ w. not (finite (from_le_bytes w32 w))) _ _ c.position-bad_coordinate.result c.position-bad_coordinate.ensures.ran
    (YieldsList-from_slice chunks cc) (λ x b q k. search (rules, tests)) in
    let bad : c.position-bad_coordinate.result ≡ lowest_bad finite (mesh_in bytes).coordinates =
    found ∙ lowest_bad-map (from_le_bytes w32) finite chunks
    ∙ ap (lowest_bad finite)
    (coordinates-words bytes c.requires c.split_at.result.0.now chunks c.as_chunks.ensures.front c.word_at-vertices.result c.word_at-vertices.ensures c.split_at.ensures.front) in
    let named = c.as_chunks-2.result.0.now in
    let found-index : c.position-bad_index.result ≡ position (λ w. not (below c.word_at-vertices.result (from_le_bytes w32 w))) named =
    position_from_yields_List (λ w. not (below c.word_at-vertices.result (from_le_bytes w32 w))) _ _ c.position-bad_index.result c.position-bad_index.ensures.ran
    (YieldsList-from_slice named cc) (λ x b q k. search (rules, tests)) in
    let bad-index : c.position-bad_index.result ≡ lowest_bad (below (vertex_count (mesh_in bytes))) (mesh_in bytes).indices =
    found-index ∙ lowest_bad-map (from_le_bytes w32) (below c.word_at-vertices.result) named
    ∙ ap₂ (λ (v : ℕ) (l : List ℕ). lowest_bad (below v) l) (c.word_at-vertices.ensures ∙ sym (mesh_in-vertices bytes c.requires))
    (indices-words bytes c.requires c.split_at.result.1.now named c.as_chunks-2.ensures.front c.word_at-vertices.result c.word_at-vertices.ensures c.split_at.ensures.back) in
    let place : 28 + 12 * c.word_at-vertices.result + 4 * c.in-Some-bad_index.i ≡ 28 + 4 * length (mesh_in bytes).coordinates + 4 * c.in-Some-bad_index.i =
    omega (arith, c.word_at-vertices.ensures, coordinates-length bytes c.requires) in
    ap malformed place ∙ contents-index 28 (mesh_in bytes) (sym c.in_default.is ∙ bad) c.in-Some-bad_index.i (sym c.in-Some-bad_index.is ∙ bad-index)

pub returns : goal.returns
returns c =
    let bytes = c.args.bytes.now in
    let chunks = c.as_chunks.result.0.now in
    let found : c.position-bad_coordinate.result ≡ position (λ w. not (finite (from_le_bytes w32 w))) chunks =
    position_from_yields_List (λ w. not (finite (from_le_bytes w32 w))) _ _ c.position-bad_coordinate.result c.position-bad_coordinate.ensures.ran
    (YieldsList-from_slice chunks cc) (λ x b q k. search (rules, tests)) in
    let bad : c.position-bad_coordinate.result ≡ lowest_bad finite (mesh_in bytes).coordinates =
    found ∙ lowest_bad-map (from_le_bytes w32) finite chunks
    ∙ ap (lowest_bad finite)
    (coordinates-words bytes c.requires c.split_at.result.0.now chunks c.as_chunks.ensures.front c.word_at-vertices.result c.word_at-vertices.ensures c.split_at.ensures.front) in
    let named = c.as_chunks-2.result.0.now in
    let found-index : c.position-bad_index.result ≡ position (λ w. not (below c.word_at-vertices.result (from_le_bytes w32 w))) named =
    position_from_yields_List (λ w. not (below c.word_at-vertices.result (from_le_bytes w32 w))) _ _ c.position-bad_index.result c.position-bad_index.ensures.ran
    (YieldsList-from_slice named cc) (λ x b q k. search (rules, tests)) in
    let bad-index : c.position-bad_index.result ≡ lowest_bad (below (vertex_count (mesh_in bytes))) (mesh_in bytes).indices =
    found-index ∙ lowest_bad-map (from_le_bytes w32) (below c.word_at-vertices.result) named
    ∙ ap₂ (λ (v : ℕ) (l : List ℕ). lowest_bad (below v) l) (c.word_at-vertices.ensures ∙ sym (mesh_in-vertices bytes c.requires))
    (indices-words bytes c.requires c.split_at.result.1.now named c.as_chunks-2.ensures.front c.word_at-vertices.result c.word_at-vertices.ensures c.split_at.ensures.back) in
    contents-none 28 (mesh_in bytes) (sym c.in_default.is ∙ bad) (sym c.in_default-bad_index.is ∙ bad-index)
