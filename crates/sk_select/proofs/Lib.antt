pub mod KeyLemmas
pub mod ChoiceLemmas
pub mod RuleLemmas
pub mod FaultLemmas
