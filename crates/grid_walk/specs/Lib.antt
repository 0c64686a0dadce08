pub mod Steps
pub mod Growth
