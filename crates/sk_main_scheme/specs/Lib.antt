pub mod EmittedText
pub mod MainScheme
pub mod Objects
