pub mod Maps
pub mod RunsAlike
pub mod SameMeaning
pub mod Unmarked
pub mod Vectors
