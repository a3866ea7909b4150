pub mod Arguments
pub mod Expressions
pub mod Instances
pub mod Named
pub mod Programs
pub mod SingleStatements
pub mod Statements
