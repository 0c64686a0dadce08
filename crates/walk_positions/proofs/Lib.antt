pub mod Cases
pub mod Nearness
pub mod EdgeEnds
