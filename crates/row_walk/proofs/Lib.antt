pub mod WordLoop
pub mod OneCell
