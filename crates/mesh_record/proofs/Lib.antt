pub mod LowestBad
pub mod Contents
pub mod Passed
pub mod Cases
