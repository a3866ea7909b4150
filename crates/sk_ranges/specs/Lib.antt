pub mod Pieces
pub mod States
pub mod Sides
