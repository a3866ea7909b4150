pub mod Applications
pub mod Names
pub mod Written
