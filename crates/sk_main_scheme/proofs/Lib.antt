pub mod UnmarkedObjects
pub mod Examples
