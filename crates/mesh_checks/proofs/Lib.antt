pub mod Chunks
pub mod Contents
pub mod Passed
mod Cases
