pub mod Blocks
pub mod Cells
pub mod Known
pub mod Locals
pub mod Scales
