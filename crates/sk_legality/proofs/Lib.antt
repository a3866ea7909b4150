pub mod Examples
pub mod ExampleTrace
pub mod Faults
pub mod States
pub mod Totals
