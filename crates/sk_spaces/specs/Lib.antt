pub mod Blocks
pub mod Journal
pub mod Memories
pub mod Spaces
pub mod Machine
pub mod Rules
