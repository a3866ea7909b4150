pub mod ExpressionText
pub mod PrintedLaws
pub mod ProgramText
pub mod ReadsBack
pub mod StatementText
pub mod WordText
