pub mod StringFronts
pub mod PlaceLemmas
pub mod Reached
