pub mod RegularEdges
