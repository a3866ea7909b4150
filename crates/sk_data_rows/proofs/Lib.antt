pub mod OwnNames
