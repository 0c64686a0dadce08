pub mod Room
pub mod Mesh
pub mod Bytes
pub mod Known
