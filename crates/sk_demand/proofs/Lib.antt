pub mod Examples
pub mod Fixtures
pub mod FollowsExamples
pub mod RunExamples
pub mod ThriftExamples
pub mod ThriftyTrace
pub mod WorkExamples
