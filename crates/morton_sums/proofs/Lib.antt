pub mod Digits
pub mod Carry
pub mod Axis
pub mod Interleaved
