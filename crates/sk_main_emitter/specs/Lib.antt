pub mod Names
pub mod Seen
pub mod Statements
pub mod Written
