pub mod Given
pub mod Joinings
pub mod Lines
pub mod Operands
pub mod Pairs
pub mod Results
