pub mod Plain
pub mod PlainParts
pub mod Suited
pub mod Taking
