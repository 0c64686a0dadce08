pub mod Sums
pub mod SetBits
mod Tallies
