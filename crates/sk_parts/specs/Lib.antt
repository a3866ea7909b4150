pub mod Choosers
pub mod Cut
pub mod CutLaws
pub mod Edge
