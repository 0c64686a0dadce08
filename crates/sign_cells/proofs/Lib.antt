pub mod LongWords
pub mod QuadBits
pub mod ActiveCells
pub mod SetBits
pub mod LowestBits
pub mod OutsideRows
pub mod Turns
