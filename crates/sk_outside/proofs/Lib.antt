pub mod Lookups
pub mod Pieces
