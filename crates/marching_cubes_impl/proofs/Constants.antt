-- The code's float constants, which stand in proofs by their bits.
use mathlib.Core.Path.{◌≡◌, refl}
use lib.Ieee.{binary32, of_bits}
use Rattle.marching_cubes_impl.specs.Sample.{nought, half, one}

pub nought_bits : of_bits binary32 0 ≡ nought
unfolding of_bits
nought_bits = refl

pub half_bits : of_bits binary32 0x3f00_0000 ≡ half
unfolding of_bits
half_bits = refl

pub one_bits : of_bits binary32 0x3f80_0000 ≡ one
unfolding of_bits
one_bits = refl
