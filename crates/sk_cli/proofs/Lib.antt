pub mod AnswerLemmas
pub mod AskedLemmas
pub mod OneAnswer
pub mod Refusals
pub mod Runs
pub mod TokenCount
