pub mod MainNames
pub mod MainRun
pub mod MainRunLaws
