pub mod Cells
pub mod Smart
pub mod Lines
pub mod Changes
pub mod Faults
pub mod Made
pub mod Parts
