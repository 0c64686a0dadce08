pub mod Cleared
mod Left
mod Passes
