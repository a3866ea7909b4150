pub mod CallLines
pub mod KernelLines
pub mod KernelValues
pub mod Legality
pub mod Replay
