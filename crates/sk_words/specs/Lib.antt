pub mod Escapes
pub mod Kinds
pub mod Strung
