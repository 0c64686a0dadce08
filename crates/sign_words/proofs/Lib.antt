pub mod Words
pub mod RowWords
pub mod OneBit
pub mod KeptBits
