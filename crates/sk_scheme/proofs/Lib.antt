pub mod Declared
pub mod ScalarNames
