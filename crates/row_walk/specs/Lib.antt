pub mod Steps
pub mod Ready
pub mod IdleCells
