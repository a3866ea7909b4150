pub mod Reading
pub mod ReadingAssignments
pub mod ReadingExpressions
pub mod ReadingForms
pub mod ReadingPrograms
pub mod ReadingStatements
