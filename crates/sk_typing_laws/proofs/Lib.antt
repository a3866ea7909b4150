pub mod AddedNames
pub mod Functions
pub mod Inputs
pub mod Least
pub mod Levels
pub mod Takes
pub mod Walks
