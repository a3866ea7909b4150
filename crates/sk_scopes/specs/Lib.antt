pub mod Scopes
