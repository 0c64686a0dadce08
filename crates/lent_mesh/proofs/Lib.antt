pub mod Places
pub mod EndOffsets
pub mod VertexOn
pub mod Points
pub mod Floats
