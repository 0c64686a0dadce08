pub mod CountLayers
pub mod Spans
pub mod CountedMesh
