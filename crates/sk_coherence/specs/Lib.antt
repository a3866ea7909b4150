pub mod Evicts
pub mod Room
pub mod Named
pub mod Later
