pub mod Answers
pub mod Found
pub mod Members
pub mod Numbers
pub mod Told
