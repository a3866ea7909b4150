pub mod ExpressionSpelling
pub mod Grammar
pub mod Limits
pub mod Signs
pub mod StatementSpelling
