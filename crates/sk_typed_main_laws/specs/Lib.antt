pub mod TypedMains
