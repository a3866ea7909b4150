pub mod Pieces
pub mod Plans
pub mod Scheme
pub mod SchemeLaws
