pub mod Unpacked
pub mod Packed
pub mod Regular
pub mod Listed
