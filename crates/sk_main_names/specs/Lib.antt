pub mod MainNames
