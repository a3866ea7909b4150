pub mod Answer
pub mod Faults
pub mod OneAnswer
pub mod Sources
