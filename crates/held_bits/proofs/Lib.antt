pub mod EdgeSets
pub mod NameWords
pub mod CrateCell
pub mod HeldBits
pub mod HeldBorder
pub mod CellSteps
