pub mod Messages
pub mod Slots
