pub mod Coded
pub mod Configurations
pub mod Objects
pub mod Offers
pub mod SoundObjects
pub mod Soundness
