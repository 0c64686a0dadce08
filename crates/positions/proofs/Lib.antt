-- Demand 3, from the bottom up; then the reasons to believe the definitions that it is stated with. Callers cite `Edges`, and `Bound` or
-- `Offset` for what holds on the way: every operation finite, delta not zero, the offset from 0 to 1.
mod Samples
pub mod Offset
pub mod Corners
pub mod Interpolation
pub mod Bound
pub mod Edges
mod Believable
mod Cases
