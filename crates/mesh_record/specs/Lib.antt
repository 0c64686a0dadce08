pub mod Mesh
pub mod Refusals
