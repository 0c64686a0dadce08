pub mod Grid
pub mod Cell
pub mod Stored
