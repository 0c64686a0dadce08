pub mod Packing
pub mod Thirds
pub mod Exact
pub mod Cases
