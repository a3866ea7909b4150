pub mod Full
pub mod Flying
