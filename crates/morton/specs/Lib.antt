pub mod Key
pub mod Answer
