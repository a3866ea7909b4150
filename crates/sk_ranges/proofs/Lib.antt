pub mod PieceLemmas
pub mod SideLemmas
pub mod StateLemmas
pub mod VecLemmas
pub mod ReadLemmas
pub mod FillLemmas
pub mod ViewLemmas
