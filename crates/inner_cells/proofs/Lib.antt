pub mod RankedEdges
