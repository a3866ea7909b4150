pub mod Inputs
pub mod Typing
pub mod TypingExpressions
pub mod TypingFaults
pub mod TypingInstances
pub mod TypingNames
pub mod TypingStatements
