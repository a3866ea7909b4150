pub mod Calls
pub mod Elements
pub mod Skeletons
