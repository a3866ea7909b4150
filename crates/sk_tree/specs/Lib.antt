pub mod FoldLaws
pub mod Functions
pub mod InstanceSettings
pub mod Operators
pub mod Parameters
pub mod Skeletons
