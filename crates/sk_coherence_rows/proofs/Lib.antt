pub mod FullLemmas
pub mod FlyingLemmas
