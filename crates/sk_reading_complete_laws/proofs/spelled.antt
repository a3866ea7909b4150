pub mod Assignments
pub mod Blocks
pub mod Chains
pub mod Expressions
pub mod Forms
pub mod Judged
pub mod Lengths
pub mod Programs
