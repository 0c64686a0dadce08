pub mod Position
pub mod Crossing
