pub mod Signs
pub mod Row
pub mod Limit
pub mod Constants
mod Cases
