pub mod Hulls
pub mod Intervals
pub mod Loops
pub mod Operators
pub mod Safety
