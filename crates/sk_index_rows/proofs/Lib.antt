pub mod IndexedObject
pub mod Suited
