pub mod Inputs
pub mod MainSoundness
pub mod MainSteps
pub mod Sound
pub mod Vectors
