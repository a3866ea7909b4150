pub mod Fits
pub mod Mains
pub mod StatementFits
pub mod Vectors
