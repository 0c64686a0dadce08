pub mod Lent
pub mod Owned
pub mod CacheMemory
