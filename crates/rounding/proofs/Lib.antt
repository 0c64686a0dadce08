-- How far one binary32 operation is off, in whole numbers only. A finite f32 is a whole number of units of 2 ^ -149, the smallest value
-- above zero, so 1.0 is 2 ^ 149 units, and an exact result is a fraction a / c whose rounding is again a whole number of units, `rounded a c`.
-- That rounding is at most half a last place off: 2 ^ -24 of a result from 2 ^ -126 on, half a unit below that. An exact result that is
-- itself a whole number of units, as every sum and difference is, needs no second case: it is off by at most 2 ^ -24 of itself.
-- In reading order; callers mostly want `Operations`.
pub mod Nearness
pub mod RoundingError
pub mod Units
pub mod Signs
mod Operands
pub mod Operations
pub mod Values
