pub mod ByCause
mod AfterCount
mod Known
pub mod Demands
