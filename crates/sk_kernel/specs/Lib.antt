pub mod Instances
pub mod Kernels
pub mod VectorLaws
pub mod Vectors
