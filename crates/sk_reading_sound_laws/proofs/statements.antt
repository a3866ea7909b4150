pub mod Assignments
pub mod Blocks
pub mod Containers
pub mod Instances
pub mod Prints
pub mod Settings
pub mod Short
pub mod Started
