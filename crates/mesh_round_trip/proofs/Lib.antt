pub mod FiniteBits
pub mod Records
pub mod ReadBack
pub mod Extracted
