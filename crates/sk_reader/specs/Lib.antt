pub mod ParsesAs
pub mod Tells
pub mod Inner
pub mod InnerPart
pub mod Inside
