pub mod Bitwise
pub mod Shapes
pub mod Wrapping
