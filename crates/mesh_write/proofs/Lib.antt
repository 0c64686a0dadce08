pub mod Fields
pub mod Meshes
pub mod Puts
