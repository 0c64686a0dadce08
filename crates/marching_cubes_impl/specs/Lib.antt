pub mod Sample
pub mod Signs
pub mod Cell
pub mod Edge
pub mod Vertex
