pub mod Faults
pub mod Holding
pub mod HostFaults
pub mod MemoryFiles
pub mod MemorySink
