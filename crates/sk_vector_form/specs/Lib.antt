pub mod VectorForm
