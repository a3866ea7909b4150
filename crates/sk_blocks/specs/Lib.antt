pub mod Calls
pub mod Choices
pub mod Kernels
pub mod Needs
pub mod Ranges
pub mod SettingLines
