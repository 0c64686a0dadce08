pub mod Checks
pub mod SampleCount
pub mod Accepted
mod Cases
