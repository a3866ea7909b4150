pub mod Evaluation
pub mod EvaluationLaws
pub mod Expressions
