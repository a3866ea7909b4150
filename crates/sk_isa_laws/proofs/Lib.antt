pub mod Callees
pub mod Instructions
pub mod Ranks
pub mod Runs
pub mod Steps
pub mod TypedLists
pub mod Values
