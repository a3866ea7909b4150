pub mod Assignments
pub mod Blocks
pub mod Forms
pub mod Short
pub mod Tokens
