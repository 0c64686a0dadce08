pub mod RowEdges
pub mod FoundKept
pub mod HeldCell
