pub mod Names
pub mod HeldCell
