-- The floats that a run leaves: those of the vertices of its visits, in order, then what the list held. Where there is room for all of them.
use mathlib.Core.Path.{◌≡◌, refl, ap, ◌∙◌}
use mathlib.Core.List.{List, [], ◌∷◌, ◌++◌, map}
use Prim.Native.Nat.{ℕ, suc, ◌+◌, ◌*◌, ◌≤◌}
use native.Mathlib.Nat.{zero-add}
use native.Mathlib.Omega.{arith}
use lib.ListN.{length, set, drop, length-map}
use lib.Seq.{sets, sets-eq}
use lib.Ieee.{Float}
use Rattle.marching_cubes_impl.specs.declared.vertex.Vertex.{Vertex}
use Rattle.walk.specs.Walk.{Visit}
use Rattle.walk_models.specs.Lent.{store_all}
use Rattle.lent_mesh.specs.Grid.{floats_of, position_at}
use Rattle.lent_mesh.specs.Stored.{put_point, store_at}
use Rattle.lent_mesh.proofs.Points.{put_point-room, put_point-length}

pub floats_of-length : (ps : List Vertex) → length (floats_of ps) ≡ 3 * length ps
unfolding floats_of
floats_of-length [] = refl
floats_of-length (p ∷ ps) = let h = floats_of-length ps in omega arith

module _ (n : ℕ) (samples : List Float) where
  pub store_all-length : (i : ℕ) (vs : List Visit) (floats : List Float) → length (store_all (store_at n samples) i vs floats) ≡ length floats
  unfolding store_all
  store_all-length i [] floats = refl
  store_all-length i (v ∷ vs) floats = store_all-length (suc i) vs (store_at n samples v i floats) ∙ put_point-length floats i (position_at n samples v)

  -- with room for all, the vertices are stored one after the other
  stored-sets : (i : ℕ) (vs : List Visit) (floats : List Float) → 3 * i + 3 * length vs ≤ length floats
      → store_all (store_at n samples) i vs floats ≡ sets floats (3 * i) (floats_of (map (position_at n samples) vs))
  unfolding store_all floats_of
  stored-sets i [] floats h = refl
  stored-sets i (v ∷ vs) floats h =
      let p : Vertex = position_at n samples v in
      let three : 3 * suc i ≡ suc (suc (suc (3 * i))) = omega arith in
      let one_more : 3 * i + 1 ≡ suc (3 * i) = omega arith in
      let two-more : 3 * i + 2 ≡ suc (suc (3 * i)) = omega arith in
      let put : put_point floats i p ≡ set (set (set floats (3 * i) p.x) (suc (3 * i)) p.y) (suc (suc (3 * i))) p.z =
      put_point-room floats i p (omega arith) ∙ rw (one_more, two-more) in
      let room : 3 * suc i + 3 * length vs ≤ length (put_point floats i p) = omega (arith, put_point-length floats i p) in
      stored-sets (suc i) vs (put_point floats i p) room ∙ rw (three, put)

  pub stored_floats : (vs : List Visit) (floats : List Float) → 3 * length vs ≤ length floats
      → store_all (store_at n samples) 0 vs floats ≡ floats_of (map (position_at n samples) vs) ++ drop (3 * length vs) floats
  stored_floats vs floats h =
      let count : length (floats_of (map (position_at n samples) vs)) ≡ 3 * length vs =
      floats_of-length (map (position_at n samples) vs) ∙ ap (λ (k : ℕ). 3 * k) (length-map vs (position_at n samples)) in
      stored-sets 0 vs floats (omega arith)
      ∙ sets-eq (floats_of (map (position_at n samples) vs)) floats 0 (omega arith)
      ∙ ap (λ (k : ℕ). floats_of (map (position_at n samples) vs) ++ drop k floats) (zero-add _ ∙ count)
