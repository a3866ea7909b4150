pub mod Arithmetic
pub mod ArithmeticLaws
pub mod Shape
pub mod ShapeLaws
