pub mod Codes
pub mod Means
pub mod Plain
pub mod PlainLaws
pub mod SourceRuns
