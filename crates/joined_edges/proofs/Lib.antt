pub mod PackedSteps
pub mod NewEdges
pub mod CellWords
pub mod InnerCells
