pub mod Calls
pub mod Events
pub mod InstanceSettings
pub mod Runs
pub mod World
