pub mod Folded
pub mod LineCalls
pub mod LineLemmas
pub mod Mapped
pub mod PairLemmas
pub mod ScanLemmas
