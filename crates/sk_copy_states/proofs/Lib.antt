pub mod ListedLemmas
pub mod RoomLemmas
pub mod LooseLemmas
pub mod InBlock
