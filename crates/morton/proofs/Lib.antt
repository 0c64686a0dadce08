pub mod TopBit
pub mod Children
