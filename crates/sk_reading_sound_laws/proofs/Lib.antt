pub mod Commas
pub mod Programs
pub mod Steps
pub mod expressions
pub mod statements
