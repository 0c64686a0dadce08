pub mod Walk
pub mod Edges
pub mod Cache
pub mod Numbering
pub mod Ownership
