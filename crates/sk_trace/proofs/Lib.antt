pub mod Candidate
pub mod CandidateFits
pub mod Digits
pub mod Free
pub mod Parts
pub mod Puts
pub mod Written
