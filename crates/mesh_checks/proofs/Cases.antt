-- What is answered about records, as one claim over a list: W3's mesh, each refusal, the ends of the ranges, and the order of the refusals where
-- several hold.
use mathlib.Core.Path.{◌≡◌, refl}
use mathlib.Core.List.{List, [], ◌∷◌, ◌++◌, map}
use Prim.Native.Nat.{ℕ}
use lib.ListN.{take, set}
use Rattle.little_endian.specs.Words.{word_at, word_bytes, bytes_of}
use Rattle.mesh_record.specs.Mesh.{record_bytes}
use Rattle.mesh_record.specs.Refusals.{none, malformed, bad_size, bad_numbering, opening, lowest_bad, contents}
use Rattle.mesh_record.proofs.Cases.{triangle}
use Rattle.mesh_checks.specs.Reading.{mesh_in, fields_in, refusal_in}

-- the words of W3's record: seven of the header, nine coordinates, three indices
written : List ℕ
written =
    1 ∷ 2 ∷ 1 ∷ 3 ∷ 28 ∷ 3 ∷ 64 ∷ 0x3F000000 ∷ 0 ∷ 0 ∷ 0 ∷ 0 ∷ 0x3F000000 ∷ 0 ∷ 0x3F000000 ∷ 0 ∷ 0 ∷ 1 ∷ 2 ∷ []

-- with one word changed, and with the seven of a header
changed : ℕ → ℕ → List ℕ
changed place word = bytes_of (set written place word)

headed : ℕ → ℕ → ℕ → ℕ → ℕ → ℕ → ℕ → List ℕ
headed a b c d e f g = bytes_of (a ∷ b ∷ c ∷ d ∷ e ∷ f ∷ g ∷ [])

cases : map refusal_in (
    record_bytes triangle ∷
    headed 1 2 0 0 28 0 28 ∷
    -- too short: the place is the length
    [] ∷
    take 27 (record_bytes triangle) ∷
    -- the words of the header, one by one
    changed 0 2 ∷
    changed 1 1 ∷
    changed 1 129 ∷
    changed 2 2 ∷
    changed 4 32 ∷
    changed 5 4 ∷
    changed 6 68 ∷
    changed 3 2 ∷
    -- three indices more than there are; cut by a byte, and longer by one
    changed 5 6 ∷
    take 75 (record_bytes triangle) ∷
    (record_bytes triangle ++ (0 ∷ [])) ∷
    -- infinities and a NaN; the largest finite float and minus zero
    changed 7 0x7F800000 ∷
    changed 15 0xFF800000 ∷
    changed 9 0x7FC00000 ∷
    changed 7 0xFF7FFFFF ∷
    changed 8 0x80000000 ∷
    -- an index at V
    changed 16 3 ∷
    changed 18 3 ∷
    -- several at once: document 02's order
    headed 2 1 2 1 0 1 0 ∷
    headed 1 1 2 1 0 1 0 ∷
    headed 1 2 2 1 0 1 0 ∷
    headed 1 2 1 1 0 1 0 ∷
    headed 1 2 1 1 28 1 0 ∷
    headed 1 2 1 1 28 3 0 ∷
    bytes_of (set (set written 16 9) 15 0x7F800000) ∷
    []) ≡
    none ∷
    none ∷
    malformed 0 ∷
    malformed 27 ∷
    malformed 0 ∷
    bad_size ∷
    bad_size ∷
    bad_numbering ∷
    malformed 16 ∷
    malformed 20 ∷
    malformed 24 ∷
    malformed 24 ∷
    malformed 24 ∷
    malformed 24 ∷
    malformed 24 ∷
    malformed 28 ∷
    malformed 60 ∷
    malformed 36 ∷
    none ∷
    none ∷
    malformed 64 ∷
    malformed 72 ∷
    malformed 0 ∷
    bad_size ∷
    bad_numbering ∷
    malformed 16 ∷
    malformed 20 ∷
    malformed 24 ∷
    malformed 60 ∷
    []
unfolding triangle written changed headed word_bytes word_at mesh_in fields_in refusal_in opening contents lowest_bad
cases = refl
