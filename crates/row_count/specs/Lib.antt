pub mod Steps
pub mod IdleCells
