pub mod Held
pub mod Copies
pub mod Stores
pub mod Entries
pub mod Sources
pub mod Loose
