pub mod Calls
pub mod FinePoints
pub mod FineWorlds
pub mod Finds
pub mod Laws
pub mod Ranks
pub mod Running
