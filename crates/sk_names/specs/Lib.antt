pub mod Bindings
pub mod BindingsLaws
pub mod Bytes
pub mod BytesLaws
pub mod Words
