pub mod NamedEdges
