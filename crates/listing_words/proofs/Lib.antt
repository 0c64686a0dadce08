pub mod Putting
pub mod Digits
