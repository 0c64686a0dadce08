-- A record written out byte by byte: that of W3's mesh.
use mathlib.Core.Path.{◌≡◌, refl}
use mathlib.Core.List.{[], ◌∷◌}
use Rattle.little_endian.specs.Words.{word_bytes}
use Rattle.mesh_record.specs.Mesh.{Mesh, record_bytes}

-- W3, joined: three vertices, one triangle
unfoldable pub triangle : Mesh
triangle =
    record {
      size = 2;
      numbering = 1;
      coordinates = 0x3F000000 ∷ 0 ∷ 0 ∷ 0 ∷ 0 ∷ 0x3F000000 ∷ 0 ∷ 0x3F000000 ∷ 0 ∷ [];
      indices = 0 ∷ 1 ∷ 2 ∷ [];
    }

bytes : record_bytes triangle
    ≡ 1 ∷ 0 ∷ 0 ∷ 0 ∷ 2 ∷ 0 ∷ 0 ∷ 0 ∷ 1 ∷ 0 ∷ 0 ∷ 0 ∷ 3 ∷ 0 ∷ 0 ∷ 0 ∷ 28 ∷ 0 ∷ 0 ∷ 0 ∷ 3 ∷ 0 ∷ 0 ∷ 0 ∷ 64 ∷ 0 ∷ 0 ∷ 0
    ∷ 0 ∷ 0 ∷ 0 ∷ 63 ∷ 0 ∷ 0 ∷ 0 ∷ 0 ∷ 0 ∷ 0 ∷ 0 ∷ 0
    ∷ 0 ∷ 0 ∷ 0 ∷ 0 ∷ 0 ∷ 0 ∷ 0 ∷ 0 ∷ 0 ∷ 0 ∷ 0 ∷ 63
    ∷ 0 ∷ 0 ∷ 0 ∷ 0 ∷ 0 ∷ 0 ∷ 0 ∷ 63 ∷ 0 ∷ 0 ∷ 0 ∷ 0
    ∷ 0 ∷ 0 ∷ 0 ∷ 0 ∷ 1 ∷ 0 ∷ 0 ∷ 0 ∷ 2 ∷ 0 ∷ 0 ∷ 0 ∷ []
unfolding triangle word_bytes
bytes = refl
