pub mod CallShapes
