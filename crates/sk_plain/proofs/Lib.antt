pub mod Bindings
pub mod Lists
pub mod Parameters
pub mod Parts
pub mod PlainParts
pub mod Slots
pub mod Truths
