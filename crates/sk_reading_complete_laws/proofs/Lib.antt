pub mod Parameters
pub mod Programs
pub mod Steps
pub mod Within
pub mod expressions
pub mod spelled
pub mod statements
