pub mod TwelveSlots
pub mod Classes
