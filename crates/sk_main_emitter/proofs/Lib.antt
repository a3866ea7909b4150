pub mod MainBranches
pub mod MainDeclared
pub mod MainInputs
pub mod MainLeaves
pub mod MainParts
pub mod MainProgram
pub mod MainWriters
pub mod NameLemmas
