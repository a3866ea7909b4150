pub mod Words
pub mod Lines
pub mod Fits
pub mod Text
pub mod Candidates
