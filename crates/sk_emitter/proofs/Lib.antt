pub mod PartsAppended
pub mod Branches
pub mod Filled
pub mod FunctionLeaves
pub mod Lists
pub mod NameLemmas
pub mod Writers
