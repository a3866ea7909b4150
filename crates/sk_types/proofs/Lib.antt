pub mod FoundLemmas
pub mod MapLemmas
pub mod NumberLemmas
pub mod ToldLemmas
